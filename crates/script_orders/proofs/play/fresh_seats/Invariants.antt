use Rattle.std.proofs.Common.{◌≡◌, replicate}
use Rattle.script_orders.specs.Stage.{fresh}
use Rattle.script_orders.proofs.play.fresh_seats.Given as goal

abbrev pub invariant-loop : goal.invariant-loop
invariant-loop l = l.seats.items ≡ replicate l.counter fresh
