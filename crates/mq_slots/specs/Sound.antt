-- The invariant of the fields of Slots.
use Rattle.std.specs.Prelude.{◌≡◌, ℕ, ◌+◌, ◌-◌, ◌≤◌, List, length, vec_capacity}
use Rattle.mq_slots.specs.declared.cells.Cell.{Cell}
use Rattle.mq_slots.specs.declared.levels.Level.{Level}
use Rattle.mq_slots.specs.declared.chains.Slots.TheInside.{Inside}
use Rattle.mq_slots.specs.Cells.{cell_at}
use Rattle.mq_slots.specs.Levels.{level_at}
use Rattle.mq_slots.specs.Chains.{IsChained, IsFreed, IsLevelled}
use Rattle.mq_slots.specs.Messages.{messages}
use Rattle.mq_slots.specs.Held.{Held}

abbrev pub prio_at : List Cell → ℕ → ℕ
prio_at cells i = (cell_at cells i).prio

abbrev pub place_at : List Cell → ℕ → ℕ
place_at cells i = (cell_at cells i).place

abbrev pub next_at : List Cell → ℕ → ℕ
next_at cells i = (cell_at cells i).next

abbrev pub level_prio : List Level → ℕ → ℕ
level_prio levels k = (level_at levels k).prio

abbrev pub level_last : List Level → ℕ → ℕ
level_last levels k = (level_at levels k).last

-- Slots and levels that match, with `count` spare slots from `free` on, and room for `room` levels.
pub record IsSound (cells : List Cell) (levels : List Level) (free count room : ℕ) : Type 0 where
  pub chained : IsChained (length cells) (prio_at cells) (place_at cells) (next_at cells)
  pub freed : IsFreed (length cells) (prio_at cells) (place_at cells) (next_at cells) free count
  pub levelled : IsLevelled (length cells) (prio_at cells) (place_at cells) (length levels)
      (level_prio levels) (level_last levels)
  pub counted : length (messages cells) + count + 1 ≡ length cells
  pub few : length cells ≤ 4097
  pub roomy : length cells ≤ room + 1

abbrev pub shown : Inside → Held
shown s = record { messages = messages s.cells.items; cap = length s.cells.items - 1 }

abbrev pub AreSound : Inside → Type 0
AreSound s = IsSound s.cells.items s.levels.items s.free s.spare (vec_capacity s.levels)
