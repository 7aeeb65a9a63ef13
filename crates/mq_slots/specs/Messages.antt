-- The messages that are present, each as its priority and its sequence number.
use Rattle.std.specs.Prelude.{◌≡◌, ◌≢◌, ℕ, ◌<◌, ◌⊎◌, nat_lt, ◌==◌, not, if◌then◌else◌, List, [], ◌∷◌, filter}
use Rattle.std.specs.List.{Contains}
use Rattle.mq_slots.specs.declared.cells.Cell.{Cell}

-- a message inserted among others, the latest first
abbrev pub placed : ℕ × ℕ → List (ℕ × ℕ) → List (ℕ × ℕ)
placed m [] = m ∷ []
placed m (x ∷ xs) = if nat_lt x.1 m.1 then m ∷ x ∷ xs else x ∷ placed m xs

-- the messages in these slots, the latest first
abbrev pub messages : List Cell → List (ℕ × ℕ)
messages [] = []
messages (c ∷ cells) = if nat_lt c.prio 32768 then placed (c.prio, c.place) (messages cells)
    else messages cells

-- the messages with another sequence number
abbrev pub without : ℕ → List (ℕ × ℕ) → List (ℕ × ℕ)
without place present = filter (λ m. not (m.1 == place)) present

-- Of these two messages the first is received first: its priority is higher, or equal and its
-- sequence number is lower.
abbrev pub GoesFirst : ℕ × ℕ → ℕ × ℕ → Type 0
GoesFirst a b = (b.0 < a.0) ⊎ ((b.0 ≡ a.0) × (a.1 < b.1))

-- a message that is received before all others
pub record IsBest (present : List (ℕ × ℕ)) (best : ℕ × ℕ) : Type 0 where
  pub there : Contains present best
  pub first : (other : ℕ × ℕ) → Contains present other → other ≢ best → GoesFirst best other
