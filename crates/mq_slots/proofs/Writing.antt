-- What the writes to slots and levels change, index by index.
use Rattle.std.proofs.lemmas.Grind.{common_steps}
use Rattle.std.proofs.Common.{◌≡◌, ◌≢◌, ℕ, ◌<◌, ◌≤◌, List, length, arith, get_or-set_other, get_or-set_same, insert, slice_set}
use Rattle.std.proofs.lemmas.List.{length-set}
use Rattle.std.proofs.lemmas.List.Edits.{get_or-insert_at, get_or-insert_below, get_or-insert_above}
use Rattle.std.proofs.lemmas.Bool.{cases_eq}
use Rattle.mq_slots.specs.declared.cells.Cell.{Cell}
use Rattle.mq_slots.specs.declared.levels.Level.{Level}
use Rattle.mq_slots.specs.Cells.{cell_at, linked, unlinked}
use Rattle.mq_slots.specs.Sound.{prio_at, place_at, next_at, level_prio, level_last}
use Rattle.mq_slots.proofs.Linking.{Linked}
use Rattle.mq_slots.proofs.Unlinking.{Unlinked}
use Rattle.mq_slots.proofs.Noting.{Inserted}

-- what each index has after two slots were written
pub record Written (old new : List Cell) (i j : ℕ) (x y : Cell) : Type 0 where
  pub slots : length new ≡ length old
  pub at_first : cell_at new i ≡ x
  pub at_second : cell_at new j ≡ y
  pub kept : (k : ℕ) → k ≢ i → k ≢ j → cell_at new k ≡ cell_at old k

pub written : (cells : List Cell) (i j : ℕ) (x y : Cell) → i < length cells → j < length cells →
    i ≢ j → Written cells (slice_set (slice_set cells i x) j y) i j x y
written cells i j x y il jl apart = grind (arith, length-set, get_or-set_other, get_or-set_same)

pub linked-cells : (cells : List Cell) (before new prio place : ℕ) → before < length cells →
    new < length cells → before ≢ new
    → Linked (prio_at cells) (place_at cells) (next_at cells)
    (prio_at (linked cells before new prio place))
    (place_at (linked cells before new prio place))
    (next_at (linked cells before new prio place)) before new prio place
linked-cells cells before new prio place bl nl apart =
    grind (arith, common_steps, written, cases_eq)

pub unlinked-cells : (cells : List Cell) (first free count : ℕ) → 0 < length cells →
    first < length cells → 0 ≢ first
    → Unlinked (prio_at cells) (place_at cells) (next_at cells)
    (prio_at (unlinked cells first free count)) (place_at (unlinked cells first free count))
    (next_at (unlinked cells first free count)) first free count
unlinked-cells cells first free count hl fl apart = grind (arith, common_steps, written, cases_eq)

-- a level is put in
pub inserted-prio : (levels : List Level) (at : ℕ) (x : Level) → at ≤ length levels →
    Inserted (level_prio levels) (level_prio (insert levels at x)) at x.prio
inserted-prio levels at x within = grind (
  arith,
  get_or-insert_below,
  get_or-insert_at,
  get_or-insert_above,
)

pub inserted-last : (levels : List Level) (at : ℕ) (x : Level) → at ≤ length levels →
    Inserted (level_last levels) (level_last (insert levels at x)) at x.last
inserted-last levels at x within = grind (
  arith,
  get_or-insert_below,
  get_or-insert_at,
  get_or-insert_above,
)
