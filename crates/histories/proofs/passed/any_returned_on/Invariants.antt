use Rattle.std.proofs.Common.{◌≡◌, take}
use Rattle.histories.specs.Named.{has_returned_on}
use Rattle.histories.specs.Passed.{is_part}
use Rattle.histories.proofs.passed.any_returned_on.Given as goal

abbrev pub invariant-loop-operations : goal.invariant-loop-operations
invariant-loop-operations l = l.found ≡ has_returned_on l.time l.passed.name.items
    (is_part l.part l.passed) (take l.operations-index l.histories.items)
