use Rattle.std.proofs.Common.{◌≡◌, ◌+◌, drop}
use Rattle.mq_equivalence.specs.Key.{index_of}
use Rattle.mq_equivalence.proofs.parts.index_of.Given as goal

abbrev pub invariant-loop-i : goal.invariant-loop-i
invariant-loop-i l = index_of l.queues l.q ≡ l.i + index_of (drop l.i l.queues) l.q
