use Rattle.std.proofs.Common.{◌≡◌, take, Vec, Global}
use Rattle.std.specs.List.{list_any}
use Rattle.histories.specs.declared.operation.Operation.{Operation}
use Rattle.histories.specs.Named.{unbinds}
use Rattle.histories.proofs.named.was_unbound.Given as goal

abbrev pub invariant-loop-operations : goal.invariant-loop-operations
invariant-loop-operations l =
    l.found ≡ list_any (λ (v : Vec Operation Global). list_any (unbinds l.time l.name) v.items)
    (take l.operations-index l.histories.items)
