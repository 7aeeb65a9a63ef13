use Rattle.std.proofs.Common.{◌≡◌, drop}
use Rattle.mq_slots.specs.Messages.{messages}
use Rattle.mq_slots.proofs.cells.messages.Given as goal

abbrev pub invariant-loop-index : goal.invariant-loop-index
invariant-loop-index l = l.found.items ≡ messages (drop l.index l.cells)
