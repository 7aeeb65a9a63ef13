-- Saved states.
use Rattle.std.specs.Prelude.{◌≡◌, ◌≤◌, ◌++◌, ◌-◌, ℕ, List, Option, Some, All, length, take, slice_get}
use Rattle.schedules.specs.Schedules.{after}
use Rattle.schedules.specs.declared.marks.Mark.{Mark}

-- The schedule of a mark leads from the start to the state that it saved, which runs from there.
pub record IsMark {S T : Type 0} (next : S → ℕ → Option S) (start : S → S) (IsSaved : S → T →
    Type 0) (from : S) (mark : Mark T) : Type 0 where
  pub at : S
  pub runs : after next mark.schedule.items from ≡ Some at
  pub same : start at ≡ from
  pub saved : IsSaved at mark.saved

abbrev pub AreMarks : {S T : Type 0} → (S → ℕ → Option S) → (S → S) → (S → T → Type 0) → S →
    List (Mark T) → Type 0
AreMarks next start IsSaved from marks = All (IsMark next start IsSaved from) marks

-- the schedule of the mark begins the path
abbrev pub IsOn : {T : Type 0} → List ℕ → Mark T → Type 0
IsOn path mark = (length mark.schedule.items ≤ length path) ×
    (take (length mark.schedule.items) path ≡ mark.schedule.items)

abbrev pub last_of : {T : Type 0} → List (Mark T) → Option (Mark T)
last_of marks = slice_get marks (length marks - 1)

-- Marks at the end were removed, none of which is on the path. If one is left, the last is on it.
abbrev pub LeavesOthers : {T : Type 0} → List ℕ → List (Mark T) → List (Mark T) → Type 0
LeavesOthers {T} path old new =
    (others : List (Mark T)) × (old ≡ new ++ others) × All (λ mark. IsOn path mark → ⊥) others ×
    ((mark : Mark T) → last_of new ≡ Some mark → IsOn path mark)
