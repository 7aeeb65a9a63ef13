-- Equivalent states, and their keys.
use Rattle.std.specs.Prelude.{ℕ, List, Option, Some, None, Vec}
use Rattle.std.specs.declared.alloc.Global.{Global}

-- neither side has a state, or both have one and these are equivalent
abbrev pub AreBothAlike : {S : Type 0} → (S → S → Type 0) → Option S → Option S → Type 0
AreBothAlike IsAlike None None = Unit {0}
AreBothAlike IsAlike (Some x) (Some y) = IsAlike x y
AreBothAlike IsAlike None (Some y) = ⊥
AreBothAlike IsAlike (Some x) None = ⊥

-- the key of a state, if it has one, is a key of it
abbrev pub HasKey : {S : Type 0} → (S → List ℕ → Type 0) → S → Option (Vec ℕ Global) → Type 0
HasKey IsKey s None = Unit {0}
HasKey IsKey s (Some key) = IsKey s key.items
