use Rattle.std.proofs.Common.{◌≡◌, take}
use Rattle.std.specs.List.{list_any}
use Rattle.histories.specs.NotFull.{creates_less}
use Rattle.histories.proofs.not_full.one_less.Given as goal

abbrev pub invariant-loop-operation : goal.invariant-loop-operation
invariant-loop-operation l = l.found ≡ list_any (creates_less l.time l.name l.capacity)
    (take l.operation-index l.operations)
