use Rattle.mq_ledger.specs.Keeping.{Forgets}
use Rattle.mq_ledger.proofs.slots.forget.Given as goal

abbrev pub invariant-loop-key : goal.invariant-loop-key
invariant-loop-key l = Forgets l.queue l.initial.slots.items l.slots.items l.initial.vacant l.vacant
