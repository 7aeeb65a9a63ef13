use Rattle.std.proofs.Common.{◌≡◌, ◌≤◌, ◌*◌, take, Vec, Global}
use Rattle.std.specs.List.{count_by, sum_by}
use Rattle.histories.specs.declared.operation.Operation.{Operation}
use Rattle.histories.specs.Excess.{receives, returned_by}
use Rattle.histories.proofs.excess.times_received.Given as goal

abbrev pub invariant-loop-operations : goal.invariant-loop-operations
invariant-loop-operations l =
    (l.count ≡ sum_by (λ (v : Vec Operation Global). count_by (receives l.prio l.message)
    (returned_by l.time v.items)) (take l.operations-index l.histories.items))
    × (l.count ≤ l.operations-index * 18446744073709551616)
