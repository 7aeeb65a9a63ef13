use Rattle.std.proofs.Common.{◌≡◌, take}
use Rattle.script_orders.specs.Stage.{seats_cleared}
use Rattle.script_orders.proofs.play.cleared_seats.Given as goal

abbrev pub invariant-loop-seat : goal.invariant-loop-seat
invariant-loop-seat l = l.cleared.items ≡ seats_cleared (take l.seat-index l.seats)
