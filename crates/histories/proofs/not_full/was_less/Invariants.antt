use Rattle.std.proofs.Common.{◌≡◌, take, Vec, Global}
use Rattle.std.specs.List.{list_any}
use Rattle.histories.specs.declared.operation.Operation.{Operation}
use Rattle.histories.specs.NotFull.{creates_less}
use Rattle.histories.proofs.not_full.was_less.Given as goal

abbrev pub invariant-loop-operations : goal.invariant-loop-operations
invariant-loop-operations l =
    l.found ≡ list_any (λ (v : Vec Operation Global). list_any
    (creates_less l.time l.name l.capacity) v.items) (take l.operations-index l.histories.items)
