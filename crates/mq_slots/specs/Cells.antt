-- The slots of a queue as a list.
use Rattle.std.specs.Prelude.{◌≡◌, ℕ, ◌+◌, ◌<◌, List, length, slice_set, slice_index_or}
use Rattle.mq_slots.specs.declared.cells.Cell.{Cell}

abbrev pub blank : Cell
blank = record { prio = 0; place = 0; next = 0 }

-- the slot at an index, if that exists
abbrev pub cell_at : List Cell → ℕ → Cell
cell_at cells i = slice_index_or cells i blank

-- A message is put into the spare slot `new`, which is linked after the slot `before`.
abbrev pub linked : List Cell → ℕ → ℕ → ℕ → ℕ → List Cell
linked cells before new prio place =
    slice_set
    (slice_set cells before (record (cell_at cells before) { next = new }))
    new
    (record { prio = prio; place = place; next = (cell_at cells before).next })

-- The slot `first` is unlinked from the head of the list, and linked before the `count` spare slots
-- that begin at `spare`.
abbrev pub unlinked : List Cell → ℕ → ℕ → ℕ → List Cell
unlinked cells first spare count =
    slice_set
    (slice_set cells 0 (record (cell_at cells 0) { next = (cell_at cells first).next }))
    first
    (record { prio = 32769; place = count + 1; next = spare })

-- the head of an empty list, and this number of spare slots
pub record IsFresh (cells : List Cell) (spare : ℕ) : Type 0 where
  pub slots : length cells ≡ spare + 1
  pub head : cell_at cells 0 ≡ record { prio = 32768; place = 0; next = 0 }
  pub spares : (i : ℕ) → i < spare →
      cell_at cells (i + 1) ≡ record { prio = 32769; place = i + 1; next = i }
