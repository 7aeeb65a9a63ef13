use Rattle.std.proofs.Common.{◌≡◌}
use Rattle.script_orders.specs.Persistence.{is_held_among}
use Rattle.script_orders.proofs.alone.is_held.Given as goal

abbrev pub invariant-loop-d : goal.invariant-loop-d
invariant-loop-d l = l.held ≡ is_held_among l.trail l.p l.q l.d
