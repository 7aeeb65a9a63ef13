use Rattle.std.proofs.Common.{Bool, List, [], drop, take}
use Rattle.exploration.specs.Shown.{Shows}
use Rattle.exploration.specs.declared.operation.Choice.{Choice}
use Rattle.exploration.proofs.search.takes.Given as goal

-- the steps begin with the choices so far
abbrev pub invariant-loop-i : goal.invariant-loop-i
invariant-loop-i l = (could : List Choice → Choice → Bool) → Shows could [] l.steps →
    Shows could (take l.i l.asked) (drop l.i l.steps)
