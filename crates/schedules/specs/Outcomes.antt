-- The outcomes at the goals of a machine.
use Rattle.std.specs.Prelude.{◌≡◌, ◌≤◌, ◌==◌, ℕ, ◌+◌, ◌*◌, Bool, true, false, ◌&&◌, not, if◌then◌else◌, List, [], ◌∷◌, ◌++◌, ◌⊎◌, length, Option}
use Rattle.std.specs.List.{All, list_any}
use Rattle.std.specs.Str.{bytes_eq}
use Rattle.schedules.specs.Observed.{Observed}
use Rattle.schedules.specs.Schedules.{LeadsToGoal}
use Rattle.schedules.specs.declared.outcomes.Outcome.{Outcome}
use Rattle.schedules.specs.declared.outcomes.Witnessed.{Witnessed}

-- what an outcome says
abbrev pub observed_in : Outcome → Observed
observed_in o = record { stage = o.stage; stuck = o.stuck; text = o.text.items }

abbrev pub are_same : Observed → Observed → Bool
are_same a b = a.stage == b.stage && (if a.stuck then b.stuck else not b.stuck) &&
    bytes_eq a.text b.text

-- this outcome was found
abbrev pub is_among : List Witnessed → Observed → Bool
is_among found observed = list_any (λ w. are_same (observed_in w.outcome) observed) found

-- no two outcomes are the same
abbrev pub AreDistinct : List Witnessed → Type 0
AreDistinct [] = Unit {0}
AreDistinct (w ∷ found) = AreDistinct found × (is_among found (observed_in w.outcome) ≡ false)

-- its schedule leads to a goal with its outcome
pub record IsWitness {S : Type 0} (next : S → ℕ → Option S) (is_goal : S → Bool) (outcome : S →
    Observed) (from : S) (w : Witnessed) : Type 0 where
  pub to : S
  pub leads : LeadsToGoal next is_goal from w.schedule.items to
  pub tells : observed_in w.outcome ≡ outcome to

-- the outcome of each goal that a schedule leads to was found
abbrev pub AreAll : {S : Type 0} → (S → ℕ → Option S) → (S → Bool) → (S → Observed) → S →
    List Witnessed → Type 0
AreAll {S} next is_goal outcome from found =
    (schedule : List ℕ) (to : S) → LeadsToGoal next is_goal from schedule to →
    is_among found (outcome to) ≡ true

-- none was added, or at the end one with this path as its schedule
abbrev pub Grows : List ℕ → List Witnessed → List Witnessed → Type 0
Grows path old new = (new ≡ old) ⊎ ((w : Witnessed) × (w.schedule.items ≡ path) ×
    (new ≡ old ++ w ∷ []))

-- So many steps can lead to all of these outcomes and back, if each step takes a choice, or takes
-- one back: each outcome but the first takes two, and so does each choice of a schedule.
pub record AreFoundWithin (steps : ℕ) (found : List Witnessed) : Type 0 where
  pub outcomes : 2 * length found ≤ steps + 2
  pub schedules : All (λ (w : Witnessed). 2 * length w.schedule.items ≤ steps) found
