-- Persistent choices.
use Rattle.std.specs.Prelude.{◌≡◌, ℕ, Option, Some, None, ◌⊎◌, ◌+◌}
use Rattle.schedules.specs.Choices.{IsFirstFrom}
use Rattle.schedules.specs.Likeness.{AreBothAlike}

-- A persistent choice leads to y, and another one from the same state to z. At z the first is still
-- persistent, and the two choices lead to equivalent states in either order.
pub record Commutes {S : Type 0} (next : S → ℕ → Option S) (IsAlike : S → S → Type 0)
    (IsPersistent : S → ℕ → Type 0) (choice other : ℕ) (y z : S) : Type 0 where
  pub stays : IsPersistent z choice
  pub alike : AreBothAlike IsAlike (next y other) (next z choice)

-- a persistent choice, and no other one to take at its state
pub record IsAlone {S : Type 0} (IsPersistent : S → ℕ → Type 0) (s : S)
    (first : Option ℕ) : Type 0 where
  pub choice : ℕ
  pub is : first ≡ Some choice
  pub persistent : IsPersistent s choice

-- the choice to take first at a state: a persistent one, or the first that can be taken
abbrev pub IsFirst : {S : Type 0} → (S → ℕ → Option S) → (S → ℕ → Type 0) → S → Option ℕ → Type 0
IsFirst next IsPersistent s first = IsFirstFrom next s 0 first ⊎ IsAlone IsPersistent s first

-- the choice to take after this one: none if this one is persistent, or the next that can be taken
abbrev pub IsFollowing : {S : Type 0} → (S → ℕ → Option S) → (S → ℕ → Type 0) → S → ℕ → Option ℕ →
    Type 0
IsFollowing next IsPersistent s choice other =
    IsFirstFrom next s (choice + 1) other ⊎ ((other ≡ None) × IsPersistent s choice)
