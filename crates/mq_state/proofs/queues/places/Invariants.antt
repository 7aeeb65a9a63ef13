use Rattle.std.proofs.Common.{◌≡◌, drop, map, reverse}
use Rattle.mq_state.proofs.Listing.{place}
use Rattle.mq_state.proofs.queues.places.Given as goal

abbrev pub invariant-loop-index : goal.invariant-loop-index
invariant-loop-index l = l.places.items ≡ reverse (map place (drop l.index l.queues))
