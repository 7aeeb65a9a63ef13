use Rattle.std.proofs.Common.{◌≡◌}
use Rattle.script_orders.specs.Likeness.{receives_from}
use Rattle.script_orders.proofs.play.receives_from.Given as goal

abbrev pub invariant-loop-i : goal.invariant-loop-i
invariant-loop-i l = receives_from l.program l.begun ≡ receives_from l.program l.i
