-- What a receive and a collect copy into their buffer.
use Rattle.std.specs.Prelude.{ℕ, ◌≡◌, true, ◌≤◌, List, [], ◌++◌, drop, length, Option, Some, None, if◌then◌else◌}
use Rattle.std.specs.Option.{option_map, option_and_then, unwrap_or}
use Rattle.mq_model.specs.Record.{Past, record_at}
use Rattle.mq_model.specs.Messages.{priority, is_receive}
use Rattle.mq_model.specs.Waits.{open_wait, answered_by}
use Rattle.mq_model.specs.declared.entries.Received.{Received}
use Rattle.mq_model.specs.declared.entries.Call.{Call}
use Rattle.mq_model.specs.declared.entries.Call.TheVariants.{MqReceive, MqTimedReceive, Collect}
use Rattle.mq_model.specs.declared.entries.Reply.{Reply}
use Rattle.mq_model.specs.declared.entries.Reply.TheVariants.{Got}
use Rattle.mq_state.specs.declared.collected.Collected.{Collected}
use Rattle.mq_state.specs.declared.collected.Collected.TheVariants.{Sent, Got as GotMessage}

-- the message sent by entry `place`
abbrev pub message_at : Past → ℕ → List ℕ
message_at past place = unwrap_or (option_map (λ r. r.payload) (record_at past place)) []

-- a buffer with a message at its start
unfoldable pub with_front : List ℕ → List ℕ → List ℕ
with_front message buffer = message ++ drop (length message) buffer

-- The content of a buffer after the reply to a receive: the received message at its start, if there
-- is one; otherwise it is unchanged.
abbrev pub filled : Past → Reply → List ℕ → List ℕ
filled past (Got place admitted notified) buffer = with_front (message_at past place) buffer
filled past _ buffer = buffer

-- the message that a reply hands out fits in the buffer
abbrev pub Fits : Past → Reply → ℕ → Type 0
Fits past (Got place admitted notified) room = length (message_at past place) ≤ room
Fits past _ room = Unit {0}

-- the length and the priority of the message sent by entry `place`
abbrev pub received_at : Past → ℕ → Received
received_at past place = record { len = length (message_at past place); prio = priority past place }

-- the length and the priority of the message that a reply hands out
abbrev pub received_by : Past → Reply → Option Received
received_by past (Got place admitted notified) = Some (received_at past place)
received_by past _ = None

-- The call that waits. A process with an open wait never has `Collect` here.
abbrev pub waiting_call : Past → ℕ → Call
waiting_call past p = unwrap_or (option_map (λ r. r.entry.call) (option_and_then (record_at past)
    (open_wait past p))) Collect

abbrev pub collected_by : Past → Call → Option ℕ → Option Collected
collected_by past call None = None
collected_by past call (Some by) = if is_receive call then Some (GotMessage (received_at past by))
    else Some Sent

-- The outcome of the open wait of process p, if it is answered. A receive gets the message of the
-- send that names it.
abbrev pub collected : Past → ℕ → Option Collected
collected past p = collected_by past (waiting_call past p) (answered_by past p)

abbrev pub into_by : Past → Call → Option ℕ → List ℕ → List ℕ
into_by past call None buffer = buffer
into_by past call (Some by) buffer = if is_receive call then with_front (message_at past by) buffer
    else buffer

-- the content of the buffer after a collect
abbrev pub collected_into : Past → ℕ → List ℕ → List ℕ
collected_into past p buffer = into_by past (waiting_call past p) (answered_by past p) buffer

-- the buffer length of a receive, and 0 for any other call
abbrev pub room_of : Call → ℕ
room_of (MqReceive d room) = room
room_of (MqTimedReceive d room until now) = room
room_of _ = 0

-- the buffer length of the waiting receive, or 0 for a send
abbrev pub waiting_room : Past → ℕ → Option ℕ
waiting_room past p = option_map (λ w. room_of (waiting_call past p)) (open_wait past p)

-- the message that answers this call, sent by entry `by`, fits in a buffer
abbrev pub FitsOutcome : Past → Call → ℕ → ℕ → Type 0
FitsOutcome past call by len = is_receive call ≡ true → length (message_at past by) ≤ len
