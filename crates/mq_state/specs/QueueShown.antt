use Rattle.std.specs.Prelude.{ℕ, Bool, List, Option}
use Rattle.mq_model.specs.declared.entries.Attr.{Attr}
use Rattle.mq_model.specs.declared.entries.Registration.{Registration}

-- What the row of a queue shows: the sequence number of the open that created it, whether it is
-- still bound to its name, its registration, its messages, the last to enter first, how many it has
-- room for, its attributes, and which processes wait on it, as the bits of a number.
pub record QueueShown : Type 0 where
  pub place : ℕ
  pub named : Bool
  pub registration : Option Registration
  pub slots : List (ℕ × ℕ)
  pub cap : ℕ
  pub attributes : Attr
  pub waiting : ℕ
