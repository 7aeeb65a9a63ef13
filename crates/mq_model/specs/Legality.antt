-- The reply to each call, given the calls before it, and which journals are legal.
use Rattle.std.specs.Prelude.{◌≡◌, ℕ, ◌+◌, ◌<◌, Bool, true, false, ◌&&◌, ◌==◌, nat_le, List, [], ◌∷◌, length, Option, is_some, is_none, if◌then◌else◌, slice_get, IsTrue}
use Rattle.std.specs.Option.{option_map, unwrap_or}
use Rattle.mq_model.specs.Limits.{most_callers}
use Rattle.mq_model.specs.Name.{is_name}
use Rattle.mq_model.specs.Record.{Record, Past, first, Place, Process}
use Rattle.mq_model.specs.Names.{bound_queue, attributes}
use Rattle.mq_model.specs.Descriptors.{held, lowest_free, alive}
use Rattle.mq_model.specs.Messages.{present, best, least, waiting_sends, waiting_receives}
use Rattle.mq_model.specs.Notices.{registered, registered_place, notices}
use Rattle.mq_model.specs.Deadlines.{is_over}
use Rattle.mq_model.specs.Waits.{open_wait, wait_deadline, answered_by}
use Rattle.mq_model.specs.ErrorOrder.{open_reply, close_reply, unlink_reply, send_reply, receive_reply, timed_reply, status_reply, notify_reply}
use Rattle.mq_model.specs.declared.error_order.OpenFacts.{OpenFacts}
use Rattle.mq_model.specs.declared.error_order.SendFacts.{SendFacts}
use Rattle.mq_model.specs.declared.error_order.ReceiveFacts.{ReceiveFacts}
use Rattle.mq_model.specs.declared.error_order.StatusFacts.{StatusFacts}
use Rattle.mq_model.specs.declared.error_order.NotifyFacts.{NotifyFacts}
use Rattle.mq_model.specs.declared.entries.Attr.{Attr}
use Rattle.mq_model.specs.declared.entries.OpenFlags.{OpenFlags}
use Rattle.mq_model.specs.declared.entries.Description.{Description}
use Rattle.mq_model.specs.declared.entries.Call.{Call}
use Rattle.mq_model.specs.declared.entries.Call.TheVariants.{MqOpen, MqClose, MqUnlink, MqSend, MqReceive, MqTimedSend, MqTimedReceive, MqGetattr, MqSetattr, MqNotify, NextNotice, Collect, Withdraw}
use Rattle.mq_model.specs.declared.entries.Reply.{Reply}
use Rattle.mq_model.specs.declared.entries.Reply.TheVariants.{Collected, Withdrawn, Notice, Refused}

-- the facts that a reply depends on, by the definitions, and the replies
-- ----------------------------

abbrev pub open_facts : Past → Process → List ℕ → OpenFacts
open_facts past p name = record {
  bound = is_some (bound_queue past name);
  free = lowest_free past p;
  queues = length (alive past);
}

-- a send depends on the receive that has waited longest, and a receive on the send
abbrev pub send_facts : Past → Description → SendFacts
send_facts past h = record {
  description = h;
  attributes = attributes past h.queue;
  count = length (present past h.queue);
  waiting = least (waiting_receives past h.queue);
  registered = registered_place past h.queue;
}

abbrev pub receive_facts : Past → Description → ReceiveFacts
receive_facts past h = record {
  description = h;
  attributes = attributes past h.queue;
  count = length (present past h.queue);
  best = best past h.queue;
  waiting = least (waiting_sends past h.queue);
  registered = registered_place past h.queue;
}

abbrev pub status_facts : Past → Description → StatusFacts
status_facts past h = record {
  description = h;
  attributes = attributes past h.queue;
  count = length (present past h.queue);
}

abbrev pub notify_facts : Past → Description → NotifyFacts
notify_facts past h = record { registered = registered past h.queue }

-- mq_open
abbrev pub reply_to_open : Past → Process → OpenFlags → Option Attr → List ℕ → Reply
reply_to_open past p flags attr name = open_reply flags attr (open_facts past p name)

-- mq_send, given what the process holds under its descriptor
abbrev pub reply_to_send : Past → Option Description → ℕ → ℕ → Reply
reply_to_send past held prio len = send_reply prio len (option_map (send_facts past) held)

-- mq_receive
abbrev pub reply_to_receive : Past → Option Description → ℕ → Reply
reply_to_receive past held room = receive_reply room (option_map (receive_facts past) held)

-- mq_getattr, and mq_setattr, which returns the attributes from before
abbrev pub reply_to_attributes : Past → Option Description → Reply
reply_to_attributes past held = status_reply (option_map (status_facts past) held)

-- mq_notify
abbrev pub reply_to_notify : Past → Process → Option Description → Option ℕ → Reply
reply_to_notify past p held value = notify_reply p value (option_map (notify_facts past) held)

-- The reply to a call of caller p. `name` is the name of an open or an unlink. In a legal journal
-- the 0 of a collect or a withdraw is never used, since a caller collects only after its wait is
-- answered, and withdraws only an open wait.
abbrev pub reply_to : Past → Process → Call → List ℕ → Reply
reply_to past p (MqOpen flags attr) name = reply_to_open past p flags attr name
reply_to past p (MqClose d) name = close_reply (held past p d)
reply_to past p MqUnlink name = unlink_reply (bound_queue past name)
reply_to past p (MqSend d prio len) name = reply_to_send past (held past p d) prio len
reply_to past p (MqReceive d room) name = reply_to_receive past (held past p d) room
reply_to past p (MqTimedSend d prio len until now) name = timed_reply until now
    (reply_to_send past (held past p d) prio len)
reply_to past p (MqTimedReceive d room until now) name = timed_reply until now
    (reply_to_receive past (held past p d) room)
reply_to past p (MqGetattr d) name = reply_to_attributes past (held past p d)
reply_to past p (MqSetattr d nonblock) name = reply_to_attributes past (held past p d)
reply_to past p (MqNotify d value) name = reply_to_notify past p (held past p d) value
reply_to past p NextNotice name = Notice (slice_get (notices past p) 0)
reply_to past p Collect name = Collected (unwrap_or (answered_by past p) 0)
reply_to past p (Withdraw now) name = Withdrawn (unwrap_or (open_wait past p) 0)

abbrev pub is_refused : Reply → Bool
is_refused (Refused fault) = true
is_refused _ = false

-- the payload is the name of an open or an unlink, the message of a send that did not fail, and
-- otherwise empty
abbrev pub is_payload : Call → Reply → List ℕ → Bool
is_payload (MqOpen flags attr) reply payload = is_name payload
is_payload MqUnlink reply payload = is_name payload
is_payload (MqSend d prio len) reply payload =
    length payload == (if is_refused reply then 0 else len)
is_payload (MqTimedSend d prio len until now) reply payload =
    length payload == (if is_refused reply then 0 else len)
is_payload _ reply payload = length payload == 0

-- A caller with an open wait may only collect, if the wait is answered, or withdraw, if its
-- deadline has passed and it is not answered. Any other caller may make any call but these two.
abbrev pub may_call : Past → Process → Call → Bool
may_call past p Collect = is_some (answered_by past p)
may_call past p (Withdraw now) = is_none (answered_by past p) && is_over (wait_deadline past p) now
may_call past p _ = is_none (open_wait past p)

-- the record may follow these
pub record IsLegalNext (past : Past) (r : Record) : Type 0 where
  pub process : IsTrue (nat_le 1 r.entry.process && nat_le r.entry.process most_callers)
  pub turn : IsTrue (may_call past r.entry.process r.entry.call)
  pub payload : IsTrue (is_payload r.entry.call r.entry.reply r.payload)
  pub reply : r.entry.reply ≡ reply_to past r.entry.process r.entry.call r.payload

-- each record may follow those before it
abbrev pub Legal : Past → Type 0
Legal [] = Unit {0}
Legal (r ∷ past) = Legal past × IsLegalNext past r

-- the records before place k are legal, and together with the record at k they are not
pub record IsFirstIllegal (past : Past) (k : Place) : Type 0 where
  pub place : k < length past
  pub before : Legal (first k past)
  pub illegal : Legal (first (k + 1) past) → ⊥

-- the payload of a call with these bytes: the name of an open or unlink, or the message of a send
abbrev pub payload_of : Call → Reply → List ℕ → List ℕ
payload_of (MqOpen flags attr) reply given = given
payload_of MqUnlink reply given = given
payload_of (MqSend d prio len) reply given = if is_refused reply then [] else given
payload_of (MqTimedSend d prio len until now) reply given = if is_refused reply then [] else given
payload_of _ reply given = []

-- One record was added: this call of process p with its reply, and with the payload that the given
-- bytes make.
pub record Appends (old new : Past) (p : Process) (call : Call) (given : List ℕ)
    (reply : Reply) : Type 0 where
  pub replies : reply ≡ reply_to old p call given
  pub records : new ≡ record {
    entry = record { process = p; call = call; reply = reply };
    payload = payload_of call reply given;
  } ∷ old
