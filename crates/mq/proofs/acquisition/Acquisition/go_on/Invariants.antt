use Rattle.std.proofs.Common.{◌≡◌, ◌≤◌, ◌+◌}
use Rattle.mq.proofs.acquisition.Acquisition.go_on.Given as goal

-- the acquisition is that of the process that started it, and has made no more accesses than there
-- were steps
abbrev pub invariant-steps : goal.invariant-steps
invariant-steps g l = record {
  same : g.L.Lock.walking l.walk ≡ g.L.Lock.walking l.initial.walk;
  few : g.L.Lock.walk_accesses l.walk ≤ g.L.Lock.walk_accesses l.initial.walk + l.taken;
}
