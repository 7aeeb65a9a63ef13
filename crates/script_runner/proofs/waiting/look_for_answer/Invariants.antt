use Rattle.std.proofs.Common.{◌≡◌, [], false}
use Rattle.mq.specs.Calls.{Calls}
use Rattle.script_runner.proofs.waiting.look_for_answer.Given as goal

-- other processes may have called
abbrev pub invariant-looks : goal.invariant-looks
invariant-looks g l = record {
  can : (goal.iterator-looks g).can_next l.iterator';
  ends : (goal.iterator-looks g).is_finite l.iterator';
  calls : Calls l.initial.process l.process [];
  none : l.answered ≡ false;
}
