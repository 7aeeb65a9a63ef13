-- Which message of a queue is received next. A message is its priority and the sequence number of
-- its send.
use Rattle.std.specs.Prelude.{ℕ, ℤ, pos, negsuc, Bool, ◌&&◌, ◌||◌, ◌==◌, nat_lt, nat_le, List, Option}
use Rattle.std.specs.List.{find, list_all}
use Rattle.mq_model.specs.declared.entries.Attr.{Attr}

-- Of these two messages a is received first, or they are the same: its priority is higher, or equal
-- and a is older.
abbrev pub goes_first : ℕ × ℕ → ℕ × ℕ → Bool
goes_first a b = nat_lt b.0 a.0 || (a.0 == b.0 && nat_le a.1 b.1)

-- the oldest message of the highest priority
abbrev pub best_slot : List (ℕ × ℕ) → Option (ℕ × ℕ)
best_slot slots = find (λ a. list_all (goes_first a) slots) slots

-- a number that is not negative, else 0
abbrev pub magnitude : ℤ → ℕ
magnitude (pos n) = n
magnitude (negsuc n) = 0

-- how many messages a queue with these attributes can hold
abbrev pub slots_for : Attr → ℕ
slots_for attributes = magnitude attributes.maxmsg
