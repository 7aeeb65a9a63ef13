use Rattle.std.proofs.Common.{◌≡◌, ◌++◌, drop}
use Rattle.mq_equivalence.specs.Key.{codes}
use Rattle.script_orders.specs.Likeness.{seat_code}
use Rattle.script_orders.proofs.keys.push_seats.Given as goal

abbrev pub invariant-loop-seat : goal.invariant-loop-seat
invariant-loop-seat l = l.key.items ++ codes seat_code (drop l.seat-index l.seats) ≡
    l.initial.key.items ++ codes seat_code l.seats
