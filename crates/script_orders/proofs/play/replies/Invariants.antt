use Rattle.std.proofs.Common.{◌≡◌, ◌++◌, drop}
use Rattle.script_orders.specs.Stage.{replies}
use Rattle.script_orders.proofs.play.replies.Given as goal

abbrev pub invariant-loop-seat : goal.invariant-loop-seat
invariant-loop-seat l = l.text.items ++ replies (drop l.seat-index l.seats) ≡ replies l.seats
