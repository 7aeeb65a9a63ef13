-- Which calls can still be made, and what a journal with bounds still has room for.
use Rattle.std.specs.Prelude.{ℕ, ◌≡◌, ◌+◌, ◌-◌, ◌≤◌, Bool, true, false, not, ◌&&◌, ◌||◌, is_some, is_none, List, length, Option, Some, None}
use Rattle.mq_model.specs.Record.{Past, Process, payload_bytes}
use Rattle.mq_model.specs.Waits.{open_wait, wait_deadline, answered_by}
use Rattle.mq_model.specs.Legality.{may_call}
use Rattle.mq_model.specs.Bounds.{open_waits, exceeds, finds_full}
use Rattle.mq_model.specs.declared.bounds.Bounds.{Bounds}
use Rattle.mq_model.specs.declared.entries.Call.{Call}
use Rattle.mq_model.specs.declared.entries.Call.TheVariants.{Collect, Withdraw}

-- the call ends the wait of its process: room was kept for its entry
abbrev pub ends_wait : Call → Bool
ends_wait Collect = true
ends_wait (Withdraw now) = true
ends_wait _ = false

-- process p may make this call, and the journal has room for it
abbrev pub can_make : Option Bounds → Past → Process → Call → List ℕ → Bool
can_make bounds past p call given = may_call past p call &&
    (ends_wait call || not (finds_full bounds past p call given))

-- None of n processes can make any call, at whatever time. Since only calls change a journal, none
-- ever can.
abbrev pub NobodyCanCall : Option Bounds → Past → ℕ → Type 0
NobodyCanCall bounds past n = (p : Process) → 1 ≤ p → p ≤ n → (call : Call) (given : List ℕ) →
    can_make bounds past p call given ≡ false

-- there is no room for an entry, beside those that end the open waits
abbrev pub is_full : Option Bounds → Past → Bool
is_full bounds past = exceeds bounds (length past + open_waits past + 1) (payload_bytes past + 0)

-- Process p can make some call: its wait is answered or has a deadline, or it has no open wait and
-- there is room.
abbrev pub can_call : Option Bounds → Past → Process → Bool
can_call bounds past p = is_some (answered_by past p) ||
    (is_some (wait_deadline past p) || (is_none (open_wait past p) && not (is_full bounds past)))

-- the number of entries, beside those that end the open waits, and of payload bytes for which the
-- journal still has room
abbrev pub room_left : Option Bounds → Past → Option Bounds
room_left None past = None
room_left (Some b) past = Some (record {
  entries = b.entries - (length past + open_waits past);
  bytes = b.bytes - payload_bytes past;
})
