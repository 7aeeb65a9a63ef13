-- How many steps lead to the outcomes that were found.
use Rattle.std.proofs.lemmas.Grind.{common_steps}
use Rattle.std.proofs.Common.{◌≡◌, ◌≤◌, ℕ, ◌+◌, ◌*◌, List, [], length, subst, arith, length-append}
use Rattle.std.specs.List.{All}
use Rattle.std.proofs.lemmas.List.Elements.{All-cons}
use Rattle.schedules.specs.Outcomes.{AreFoundWithin, Grows}
use Rattle.schedules.specs.declared.outcomes.Witnessed.{Witnessed}

abbrev Fits : ℕ → Witnessed → Type 0
Fits steps w = 2 * length w.schedule.items ≤ steps

-- more steps suffice too
pub all-further : (m n : ℕ) → m ≤ n → (found : List Witnessed) → All (Fits m) found →
    All (Fits n) found
all-further m n le found all = λ k d lt. let h = all k d lt in omega (arith, h, le)

-- two steps more, and one more outcome at most
pub within-grown : (m : ℕ) (path : List ℕ) (old new : List Witnessed) →
    AreFoundWithin m old → Grows path old new → 2 * length path ≤ m + 2 → AreFoundWithin (m + 2) new
within-grown m path old new within grows fits =
    grind (arith, common_steps, all-further, length-append)

-- the same with as many steps
pub within-same : (m n : ℕ) (found : List Witnessed) → m ≡ n → AreFoundWithin m found →
    AreFoundWithin n found
within-same m n found same within = subst (λ (steps : ℕ). AreFoundWithin steps found) same within

-- at the start, before any step
pub within-first : (path : List ℕ) (found : List Witnessed) → path ≡ [] → Grows path [] found →
    AreFoundWithin (0 + length path) found
within-first path found empty grows = grind (arith, All-cons)
