use Rattle.std.proofs.Common.{◌≡◌, ◌++◌, List, All, length}
use Rattle.schedules.specs.Marks.{IsOn}
use Rattle.schedules.specs.declared.marks.Mark.{Mark}
use Rattle.schedules.proofs.marks.leave_others.Given as goal

-- only the last marks were removed, and none of them is on the path
abbrev pub invariant-loop-marks : goal.invariant-loop-marks
invariant-loop-marks g l = (others : List (Mark g.row.T.Denot)) ×
    (l.fn.marks.items ≡ l.marks.items ++ others) × All (λ mark. IsOn l.path mark → ⊥) others

abbrev pub decreases-loop-marks : goal.decreases-loop-marks
decreases-loop-marks g l = length l.marks.items
