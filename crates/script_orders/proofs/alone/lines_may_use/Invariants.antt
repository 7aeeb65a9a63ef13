use Rattle.std.proofs.Common.{◌≡◌, drop}
use Rattle.std.specs.List.{list_any}
use Rattle.script_orders.specs.Persistence.{line_may_use}
use Rattle.script_orders.proofs.alone.lines_may_use.Given as goal

abbrev pub invariant-loop-i : goal.invariant-loop-i
invariant-loop-i l = list_any (line_may_use l.trail l.phase l.p l.q) (drop l.begun l.program) ≡
    list_any (line_may_use l.trail l.phase l.p l.q) (drop l.i l.program)
