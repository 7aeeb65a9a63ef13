-- The effect and the results of reading the journal.
use Rattle.std.specs.Prelude.{ℕ, ◌≡◌, ◌⊎◌, true, false, [], Option, Some, None}
use Rattle.fast_mutex.specs.Items.{Ticket}
use Rattle.mq_model.specs.Record.{Record}
use Rattle.mq_model.specs.declared.bounds.Bounds.{Bounds}
use Rattle.mq_state.specs.Room.{NobodyCanCall, room_left}
use Rattle.mq.specs.Calls.{Calls, KeepsAnswered, bounds_of, stored_in}
use Rattle.c_handles.specs.declared.requests.Room.{Room}

-- the journal of the system that a process belongs to is stored
abbrev pub IsStored : Ticket Record → Type 0
IsStored t = stored_in t.lock.fixed ≡ true

abbrev pub IsUnstored : Ticket Record → Type 0
IsUnstored t = stored_in t.lock.fixed ≡ false

-- No call was made. If a poll has told the process that its wait is answered, it still is.
abbrev pub Reads : Ticket Record → Ticket Record → Type 0
Reads old new = Calls old new [] × KeepsAnswered old new

-- A check that acquired the lock returns 0, which means that the journal is legal, and made no
-- call. It is 27 if the journal is not stored.
abbrev pub Checks : Option (Ticket Record) → Option (Ticket Record) → ℕ → Type 0
Checks None None code = code ≡ 18
Checks (Some old) (Some new) code = ((code ≡ 0) × Reads old new × IsStored old) ⊎
    ((code ≡ 16) × (new ≡ old) × IsStored old) ⊎ ((code ≡ 27) × (new ≡ old) × IsUnstored old)
Checks None (Some new) code = ⊥
Checks (Some old) None code = ⊥

-- the room as C sees it: without bounds, the greatest numbers
abbrev pub room_shown : Option Bounds → Room
room_shown None = record { entries = 18446744073709551615; bytes = 18446744073709551615 }
room_shown (Some b) = record { entries = b.entries; bytes = b.bytes }

-- A request for the room that acquired the lock made no call, and wrote the room that is left.
abbrev pub GivesRoom : Option (Ticket Record) → Option (Ticket Record) → Room → Room → ℕ → Type 0
GivesRoom None None before after code = (code ≡ 18) × (after ≡ before)
GivesRoom (Some old) (Some new) before after code =
    ((code ≡ 0) × Reads old new × (after ≡ room_shown (room_left (bounds_of old) new.left))) ⊎
    ((code ≡ 16) × (new ≡ old) × (after ≡ before))
GivesRoom None (Some new) before after code = ⊥
GivesRoom (Some old) None before after code = ⊥

-- A request whether no process can make a call, which acquired the lock, made none itself. The code
-- is 0 if that is so, else 26.
abbrev pub GivesNobody : Option (Ticket Record) → Option (Ticket Record) → ℕ → Type 0
GivesNobody None None code = code ≡ 18
GivesNobody (Some old) (Some new) code =
    ((code ≡ 0) × Reads old new × NobodyCanCall (bounds_of old) new.left old.lock.count) ⊎
    ((code ≡ 26) × Reads old new × (NobodyCanCall (bounds_of old) new.left old.lock.count → ⊥))
    ⊎ ((code ≡ 16) × (new ≡ old))
GivesNobody None (Some new) code = ⊥
GivesNobody (Some old) None code = ⊥
