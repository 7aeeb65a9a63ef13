use Rattle.std.proofs.Common.{◌≡◌, length}
use Rattle.mq_slots.proofs.chains.Slots.clear.Given as goal

abbrev pub invariant-loop : goal.invariant-loop
invariant-loop l = l.self.cap ≡ l.initial.self.cap

abbrev pub decreases-loop : goal.decreases-loop
decreases-loop l = length l.self.messages
