use Rattle.std.proofs.Common.{◌≡◌, take}
use Rattle.histories.specs.Named.{has_returned_on}
use Rattle.histories.specs.NotFull.{finds_full}
use Rattle.histories.proofs.not_full.was_full.Given as goal

abbrev pub invariant-loop-operations : goal.invariant-loop-operations
invariant-loop-operations l =
    l.full ≡ has_returned_on l.found.to l.found.name.items (finds_full l.found.from l.found.prio
    l.found.message.items) (take l.operations-index l.histories.items)
