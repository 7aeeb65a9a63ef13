use Rattle.std.proofs.Common.{◌≡◌, ◌≤◌, take}
use Rattle.std.specs.List.{count_by}
use Rattle.histories.specs.Excess.{sends_by}
use Rattle.histories.proofs.excess.sends_in.Given as goal

abbrev pub invariant-loop-operation : goal.invariant-loop-operation
invariant-loop-operation l =
    (l.count ≡ count_by (sends_by l.time l.prio l.message) (take l.operation-index l.operations)) ×
    (l.count ≤ l.operation-index)
