use Rattle.std.specs.Prelude.{ℕ, List}

-- What the slots of a queue show: the messages present, each as its priority and its sequence
-- number, the latest first, and how many there can be.
pub record Held : Type 0 where
  pub messages : List (ℕ × ℕ)
  pub cap : ℕ
