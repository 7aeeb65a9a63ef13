-- What a call of a process returns, given the reply in its entry. None stands for a reply that the
-- call never gets.
use Rattle.std.specs.Prelude.{ℕ, ◌≤◌, Bool, true, false, Option, Some, None, Result, Ok, Err}
use Rattle.mq_model.specs.Record.{Past}
use Rattle.mq_model.specs.declared.entries.Status.{Status}
use Rattle.mq_model.specs.declared.entries.Received.{Received}
use Rattle.mq_model.specs.declared.entries.Reply.{Reply}
use Rattle.mq_model.specs.declared.entries.Reply.TheVariants.{Opened, Queued, Handed, Waits, Got, Attrs, Notice, Done, Refused}
use Rattle.mq_model.specs.declared.faults.Fault.{Fault}
use Rattle.mq_state.specs.Buffers.{received_at}
use Rattle.mq_state.specs.declared.collected.Collected.{Collected as Outcome}
use Rattle.mq_state.specs.declared.collected.Collected.TheVariants.{Got as GotMessage, Sent}

abbrev pub open_says : Reply → Option (Result ℕ Fault)
open_says (Opened d created) = Some (Ok d)
open_says (Refused fault) = Some (Err fault)
open_says _ = None

-- of close, unlink and notify
abbrev pub done_says : Reply → Option (Result (Unit {0}) Fault)
done_says Done = Some (Ok tt)
done_says (Refused fault) = Some (Err fault)
done_says _ = None

-- of getattr and setattr
abbrev pub attributes_says : Reply → Option (Result Status Fault)
attributes_says (Attrs status) = Some (Ok status)
attributes_says (Refused fault) = Some (Err fault)
attributes_says _ = None

abbrev pub notice_says : Reply → Option (Result (Option ℕ) Fault)
notice_says (Notice value) = Some (Ok value)
notice_says (Refused fault) = Some (Err fault)
notice_says _ = None

-- true: the message was accepted; false: the send waits
abbrev pub start_send_says : Reply → Option (Result Bool Fault)
start_send_says (Queued notified) = Some (Ok true)
start_send_says (Handed wait) = Some (Ok true)
start_send_says Waits = Some (Ok false)
start_send_says (Refused fault) = Some (Err fault)
start_send_says _ = None

-- a send without a wait
abbrev pub send_says : Reply → Option (Result (Unit {0}) Fault)
send_says (Queued notified) = Some (Ok tt)
send_says (Handed wait) = Some (Ok tt)
send_says (Refused fault) = Some (Err fault)
send_says _ = None

-- the received message, from the journal left; or None if the receive waits
abbrev pub start_receive_says : Past → Reply → Option (Result (Option Received) Fault)
start_receive_says past (Got place admitted notified) = Some (Ok (Some (received_at past place)))
start_receive_says past Waits = Some (Ok None)
start_receive_says past (Refused fault) = Some (Err fault)
start_receive_says past _ = None

-- a receive without a wait
abbrev pub receive_says : Past → Reply → Option (Result Received Fault)
receive_says past (Got place admitted notified) = Some (Ok (received_at past place))
receive_says past (Refused fault) = Some (Err fault)
receive_says past _ = None

-- a received message fits in a buffer of that length
abbrev pub FitsIn : Outcome → ℕ → Type 0
FitsIn (GotMessage received) room = received.len ≤ room
FitsIn Sent room = Unit {0}
