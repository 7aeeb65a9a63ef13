use Rattle.std.proofs.Common.{◌≡◌, ◌++◌, drop}
use Rattle.mq_equivalence.specs.Key.{codes, queue_code}
use Rattle.mq_equivalence.proofs.parts.push_queues.Given as goal

abbrev pub invariant-loop-i : goal.invariant-loop-i
invariant-loop-i l =
    l.key.items ++ codes (queue_code l.received l.trail) (drop l.i l.queues)
    ≡ l.initial.key.items ++ codes (queue_code l.received l.trail) l.queues
