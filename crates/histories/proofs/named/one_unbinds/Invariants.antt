use Rattle.std.proofs.Common.{◌≡◌, take}
use Rattle.std.specs.List.{list_any}
use Rattle.histories.specs.Named.{unbinds}
use Rattle.histories.proofs.named.one_unbinds.Given as goal

abbrev pub invariant-loop-operation : goal.invariant-loop-operation
invariant-loop-operation l = l.found ≡ list_any (unbinds l.time l.name)
    (take l.operation-index l.operations)
