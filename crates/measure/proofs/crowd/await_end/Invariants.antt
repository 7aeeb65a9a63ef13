use Rattle.std.proofs.Common.{◌≡◌}
use Rattle.measure.proofs.crowd.await_end.Given as goal

-- the process is unchanged, except for what polls told it
abbrev pub invariant-polls : goal.invariant-polls
invariant-polls g l = record {
  can : (goal.iterator-polls g).can_next l.iterator';
  ends : (goal.iterator-polls g).is_finite l.iterator';
  same : l.process ≡ record l.initial.process { told = l.process.told };
}
