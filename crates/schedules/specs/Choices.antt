-- Which choices can be taken at a state.
use Rattle.std.specs.Prelude.{◌≡◌, ◌≤◌, ◌<◌, ℕ, Option, Some, None, IsSome}

-- the first choice from this one on that can be taken, if there is one
abbrev pub IsFirstFrom : {S : Type 0} → (S → ℕ → Option S) → S → ℕ → Option ℕ → Type 0
IsFirstFrom next s from None = (choice : ℕ) → from ≤ choice → next s choice ≡ None
IsFirstFrom next s from (Some first) =
    (from ≤ first) × IsSome (next s first) × ((choice : ℕ) → from ≤ choice → choice < first →
    next s choice ≡ None)
