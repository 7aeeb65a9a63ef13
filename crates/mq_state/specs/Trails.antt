-- The record that a call appends. The records before it determine it.
use Rattle.std.specs.Prelude.{ℕ, Bool, ◌&&◌, nat_le, List, ◌∷◌, Option, Some, None, if◌then◌else◌}
use Rattle.mq_model.specs.Limits.{most_callers}
use Rattle.mq_model.specs.Record.{Record, Past, Process}
use Rattle.mq_model.specs.Legality.{reply_to, may_call, is_payload, payload_of}
use Rattle.mq_model.specs.declared.entries.Call.{Call}

-- a call of caller p with these bytes, a name or a message, and its reply
abbrev pub record_of_call : Past → Process → Call → List ℕ → Record
record_of_call past p call given =
    record {
      entry = record { process = p; call = call; reply = reply_to past p call given };
      payload = payload_of call (reply_to past p call given) given;
    }

-- the caller may make the call now, and the bytes are a name, or a message of its length
abbrev pub can_call : Past → Process → Call → List ℕ → Bool
can_call past p call given =
    nat_le 1 p && nat_le p most_callers && may_call past p call &&
    is_payload call (reply_to past p call given)
    (payload_of call (reply_to past p call given) given)

-- the journal with the call, if the caller may make it
abbrev pub with_call : Past → Process → Call → List ℕ → Option Past
with_call past p call given =
    if can_call past p call given then Some (record_of_call past p call given ∷ past) else None
