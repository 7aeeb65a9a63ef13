use Rattle.std.specs.Prelude.{ℕ, ◌≡◌, List, Option, None, Some, slice_index_or}
use Rattle.mq_model.specs.Record.{Past}

-- What an unstored journal shows: its records, the room that it has, and the sequence number of the
-- entry in each slot.
pub record Seen : Type 0 where
  pub records : Past
  pub entry_room : ℕ
  pub byte_room : ℕ
  pub places : List (Option ℕ)

-- some slot has the entry with this sequence number
abbrev pub HasPlace : List (Option ℕ) → ℕ → Type 0
HasPlace places k = (key : ℕ) × (slice_index_or places key None ≡ Some k)
