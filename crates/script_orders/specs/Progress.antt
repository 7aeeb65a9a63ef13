-- The state of a process of a script.
use Rattle.std.specs.Prelude.{ℕ, List}

-- how many of its lines it has begun, and the text of its replies in this phase
pub record Progress : Type 0 where
  pub begun : ℕ
  pub text : List ℕ
