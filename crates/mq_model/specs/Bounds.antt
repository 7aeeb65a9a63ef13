-- Whether a call finds the journal full, in a system with bounds.
use Rattle.std.specs.Prelude.{ℕ, ◌≡◌, ◌≢◌, ◌↔◌, ◌+◌, Bool, true, false, ◌||◌, nat_lt, List, length, Option, Some, None, is_some, if◌then◌else◌}
use Rattle.std.specs.List.{count_by}
use Rattle.mq_model.specs.Limits.{most_callers}
use Rattle.mq_model.specs.Record.{Past, payload_bytes, Process}
use Rattle.mq_model.specs.Descriptors.{held, numbers_from}
use Rattle.mq_model.specs.Waits.{open_wait}
use Rattle.mq_model.specs.Legality.{reply_to_send, is_refused}
use Rattle.mq_model.specs.declared.bounds.Bounds.{Bounds}
use Rattle.mq_model.specs.declared.entries.Call.{Call}
use Rattle.mq_model.specs.declared.entries.Call.TheVariants.{MqOpen, MqUnlink, MqSend, MqReceive, MqTimedSend, MqTimedReceive, Collect, Withdraw}
use Rattle.mq_model.specs.declared.entries.Reply.{Reply}
use Rattle.mq_model.specs.declared.entries.Reply.TheVariants.{Refused}
use Rattle.mq_model.specs.declared.faults.Fault.TheVariants.{NoMemory, JournalFull}

-- how many waits are open
unfoldable pub open_waits : Past → ℕ
open_waits past = count_by (λ p. is_some (open_wait past p)) (numbers_from 1 most_callers)

-- this number of entries, or of payload bytes, is more than the journal may hold
abbrev pub exceeds : Option Bounds → ℕ → ℕ → Bool
exceeds None entries bytes = false
exceeds (Some b) entries bytes = nat_lt b.entries entries || nat_lt b.bytes bytes

-- The entries that a call needs room for: its own, and if it may wait, also the one that ends the
-- wait. That one, a collect or a withdraw, then needs no room, since it was kept for it.
abbrev pub entries_needed : Call → ℕ
entries_needed (MqSend d prio len) = 2
entries_needed (MqReceive d room) = 2
entries_needed (MqTimedSend d prio len until now) = 2
entries_needed (MqTimedReceive d room until now) = 2
entries_needed Collect = 0
entries_needed (Withdraw now) = 0
entries_needed _ = 1

-- The payload bytes that a call needs room for: those of its name or its message. A message counts
-- only if the send, without its deadline, does not fail.
abbrev pub bytes_needed : Past → Process → Call → List ℕ → ℕ
bytes_needed past p (MqOpen flags attr) given = length given
bytes_needed past p MqUnlink given = length given
bytes_needed past p (MqSend d prio len) given =
    if is_refused (reply_to_send past (held past p d) prio len) then 0 else length given
bytes_needed past p (MqTimedSend d prio len until now) given =
    if is_refused (reply_to_send past (held past p d) prio len) then 0 else length given
bytes_needed past p call given = 0

-- A call of process p with these bytes, a name or a message, finds the journal full: with what the
-- call needs, and with the entries that end the open waits, there would be more than the journal
-- may hold.
abbrev pub finds_full : Option Bounds → Past → Process → Call → List ℕ → Bool
finds_full bounds past p call given = exceeds bounds (length past + open_waits past + entries_needed
    call) (payload_bytes past + bytes_needed past p call given)

-- false for the two replies without an entry: memory was refused, or the journal is full
abbrev pub has_entry : Reply → Bool
has_entry (Refused NoMemory) = false
has_entry (Refused JournalFull) = false
has_entry _ = true

-- The reply to a call respects the bounds: it is `JournalFull` if and only if the call finds the
-- journal full, and never `NoMemory` with bounds.
pub record HeedsBounds (bounds : Option Bounds) (past : Past) (p : Process) (call : Call)
    (given : List ℕ) (reply : Reply) : Type 0 where
  pub full : (reply ≡ Refused JournalFull) ↔ (finds_full bounds past p call given ≡ true)
  pub memory : is_some bounds ≡ true → reply ≢ Refused NoMemory
