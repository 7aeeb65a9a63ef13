-- The outcome of a state.
use Rattle.std.specs.Prelude.{ℕ, Bool, List}

pub record Observed : Type 0 where
  pub stage : ℕ
  pub stuck : Bool
  pub text : List ℕ
