use Rattle.std.proofs.Common.{◌≡◌, map, take}
use Rattle.mq_state.proofs.trail.reading.places_of.Given as goal

abbrev pub invariant-loop-i : goal.invariant-loop-i
invariant-loop-i l = l.places.items ≡ map (λ m. m.1) (take l.i l.messages)
