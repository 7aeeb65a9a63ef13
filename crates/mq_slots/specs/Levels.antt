-- The priorities in use as a list.
use Rattle.std.specs.Prelude.{ℕ, ◌-◌, ◌==◌, ◌&&◌, ◌<◌, nat_lt, if◌then◌else◌, List, length, take, insert, slice_set, slice_index_or}
use Rattle.mq_slots.specs.declared.levels.Level.{Level}

abbrev pub no_level : Level
no_level = record { prio = 0; last = 0 }

-- the level at an index, if that exists
abbrev pub level_at : List Level → ℕ → Level
level_at levels k = slice_index_or levels k no_level

-- each level has a higher priority than those before it
pub record IsRising (levels : List Level) : Type 0 where
  pub rising : (a b : ℕ) → a < b → b < length levels →
      (level_at levels a).prio < (level_at levels b).prio

-- the last slot of the level with this index, or the head of the list if there is none
abbrev pub last_from : List Level → ℕ → ℕ
last_from levels at = if nat_lt at (length levels) then (level_at levels at).last else 0

-- The level of a priority gets this last slot. It has the index `at`, or is inserted there.
abbrev pub noted : List Level → ℕ → ℕ → ℕ → List Level
noted levels at prio last =
    if nat_lt at (length levels) && (level_at levels at).prio == prio
    then slice_set levels at (record { prio = prio; last = last })
    else insert levels at (record { prio = prio; last = last })

-- the highest level is removed if `slot` is its last one
abbrev pub dropped : List Level → ℕ → List Level
dropped levels slot =
    if nat_lt 0 (length levels) && (level_at levels (length levels - 1)).last == slot
    then take (length levels - 1) levels
    else levels
