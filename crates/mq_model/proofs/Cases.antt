-- Which call a reply belongs to, and what was so before it.
use Rattle.std.proofs.lemmas.Bool.Decides.{nat_tests}
use Rattle.std.proofs.Common.{◌≡◌, ℕ, Bool, true, false, ◌&&◌, ◌==◌, List, length, Option, Some, None, is_some, if◌then◌else◌, refl, arith, nat_le, int_lt, pos, slice_get, unwrap_or}
use Rattle.mq_model.specs.Record.{Past}
use Rattle.mq_model.specs.Names.{bound_queue, attributes}
use Rattle.mq_model.specs.Descriptors.{held}
use Rattle.mq_model.specs.Messages.{present, is_full, best, least, waiting_sends, waiting_receives}
use Rattle.mq_model.specs.Notices.{registered_place, notices}
use Rattle.mq_model.specs.Waits.{open_wait, answered_by}
use Rattle.mq_model.specs.Limits.{most_priorities}
use Rattle.mq_model.specs.ErrorOrder.{is_read_only, is_write_only, close_reply, timed_reply}
use Rattle.mq_model.specs.Legality.{reply_to, reply_to_open, reply_to_send, reply_to_receive, reply_to_attributes, reply_to_notify}
use Rattle.mq_model.specs.declared.entries.Attr.{Attr}
use Rattle.mq_model.specs.declared.entries.OpenFlags.{OpenFlags}
use Rattle.mq_model.specs.declared.faults.Fault.{Fault}
use Rattle.mq_model.specs.declared.entries.Deadline.{Deadline}
use Rattle.mq_model.specs.declared.entries.Description.{Description}
use Rattle.mq_model.specs.declared.entries.Call.{Call}
use Rattle.mq_model.specs.declared.entries.Call.TheVariants.{MqOpen, MqClose, MqUnlink, MqSend, MqReceive, MqGetattr, MqSetattr, MqNotify, NextNotice, Collect, MqTimedSend, MqTimedReceive, Withdraw}
use Rattle.mq_model.specs.declared.entries.Reply.{Reply}
use Rattle.mq_model.specs.declared.entries.Reply.TheVariants.{Opened, Queued, Handed, Waits, Got, Collected, Attrs, Notice, Done, Refused, Withdrawn}

-- a fact on both branches
pub either : (P : Reply → Type 0) (b : Bool) (x y : Reply) → (b ≡ true → P x) → (b ≡ false → P y) →
    P (if b then x else y)
either P b x y p q = grind arith

-- what a reply says of the descriptor o that the call was made on
pub record MaySend (past : Past) (h : Description) (prio len : ℕ) : Type 0 where
  pub access : is_read_only h.access ≡ false
  pub prio_allowed : nat_le most_priorities prio ≡ false
  pub fits : int_lt (attributes past h.queue).msgsize (pos len) ≡ false

pub record MayReceive (past : Past) (h : Description) (room : ℕ) : Type 0 where
  pub access : is_write_only h.access ≡ false
  pub fits : int_lt (pos room) (attributes past h.queue).msgsize ≡ false

-- what each reply of a send says
abbrev pub MessageReply : Past → Description → Reply → Type 0
MessageReply past h (Handed w) = least (waiting_receives past h.queue) ≡ Some w
MessageReply past h Waits = (least (waiting_receives past h.queue) ≡ None) ×
    (is_full past h.queue ≡ true) × (h.nonblock ≡ false)
MessageReply past h (Queued n) = (least (waiting_receives past h.queue) ≡ None) ×
    (is_full past h.queue ≡ false) ×
    (n ≡ (if length (present past h.queue) == 0 then registered_place past h.queue else None))
MessageReply past h reply = ⊥

-- what each reply of a receive says
abbrev pub BestReply : Past → Description → Reply → Type 0
BestReply past h (Got m a n) = (best past h.queue ≡ Some m) ×
    (a ≡ least (waiting_sends past h.queue)) ×
    (n ≡ (if is_some a && length (present past h.queue) == 1 then registered_place past
    h.queue else None))
BestReply past h Waits = (best past h.queue ≡ None) × (h.nonblock ≡ false)
BestReply past h reply = ⊥

abbrev pub OpenReply : Reply → Type 0
OpenReply (Opened d created) = Unit {0}
OpenReply (Refused fault) = Unit {0}
OpenReply reply = ⊥

-- a reply is an error, or there is a description for which all this holds
abbrev pub Unless : Reply → Type 0 → Type 0
Unless (Refused fault) P = Unit {0}
Unless reply P = P

abbrev pub DoneReply : Reply → Type 0
DoneReply Done = Unit {0}
DoneReply (Refused fault) = Unit {0}
DoneReply reply = ⊥

abbrev pub AttrsReply : Reply → Type 0
AttrsReply (Attrs s) = Unit {0}
AttrsReply (Refused fault) = Unit {0}
AttrsReply reply = ⊥

abbrev pub SendSays : Past → Option Description → ℕ → ℕ → Reply → Type 0
SendSays past o prio len reply = Unless reply ((h : Description) × (o ≡ Some h) ×
    MaySend past h prio len × MessageReply past h reply)

abbrev pub ReceiveSays : Past → Option Description → ℕ → Reply → Type 0
ReceiveSays past o room reply = Unless reply ((h : Description) × (o ≡ Some h) ×
    MayReceive past h room × BestReply past h reply)

abbrev pub CloseSays : Option Description → Reply → Type 0
CloseSays o reply = DoneReply reply × Unless reply ((h : Description) × (o ≡ Some h))

-- what a reply says, by the call
abbrev pub Says : Past → ℕ → Call → Reply → Type 0
Says past p (MqOpen flags attr) reply = OpenReply reply
Says past p (MqClose d) reply = CloseSays (held past p d) reply
Says past p (MqSend d prio len) reply = SendSays past (held past p d) prio len reply
Says past p (MqTimedSend d prio len until now) reply = SendSays past (held past p d) prio len reply
Says past p (MqReceive d room) reply = ReceiveSays past (held past p d) room reply
Says past p (MqTimedReceive d room until now) reply = ReceiveSays past (held past p d) room reply
Says past p (MqGetattr d) reply = AttrsReply reply
Says past p (MqSetattr d nonblock) reply = AttrsReply reply
Says past p NextNotice reply = reply ≡ Notice (slice_get (notices past p) 0)
Says past p Collect reply = reply ≡ Collected (unwrap_or (answered_by past p) 0)
Says past p (Withdraw now) reply = reply ≡ Withdrawn (unwrap_or (open_wait past p) 0)
Says past p call reply = DoneReply reply

send_says : (past : Past) (o : Option Description) (prio len : ℕ) →
    SendSays past o prio len (reply_to_send past o prio len)
send_says past o prio len = grind (arith, nat_tests)

receive_says : (past : Past) (o : Option Description) (room : ℕ) →
    ReceiveSays past o room (reply_to_receive past o room)
receive_says past o room = grind arith

-- what holds of each error and of a reply holds of that reply with a deadline
timed_says : (P : Reply → Type 0) (until now : Deadline) (reply : Reply) →
    ((f : Fault) → P (Refused f)) → P reply → P (timed_reply until now reply)
timed_says P until now reply refused says = grind arith

open_says : (past : Past) (p : ℕ) (flags : OpenFlags) (attr : Option Attr) (name : List ℕ) →
    OpenReply (reply_to_open past p flags attr name)
open_says past p flags attr name = grind arith

close_says : (o : Option Description) → CloseSays o (close_reply o)
close_says o = grind arith

attributes_says : (past : Past) (o : Option Description) → AttrsReply (reply_to_attributes past o)
attributes_says past o = grind arith

notify_says : (past : Past) (p : ℕ) (o : Option Description) (value : Option ℕ) →
    DoneReply (reply_to_notify past p o value)
notify_says past p o value = grind arith

pub reply_says : (past : Past) (p : ℕ) (call : Call) (name : List ℕ) →
    Says past p call (reply_to past p call name)
reply_says past p (MqOpen flags attr) name = open_says past p flags attr name
reply_says past p (MqClose d) name = close_says (held past p d)
reply_says past p MqUnlink name = either DoneReply (is_some (bound_queue past name)) _ _
    (λ _. tt) (λ _. tt)
reply_says past p (MqSend d prio len) name = send_says past (held past p d) prio len
reply_says past p (MqTimedSend d prio len until now) name =
    timed_says (SendSays past (held past p d) prio len) until now _ (λ f. tt)
    (send_says past (held past p d) prio len)
reply_says past p (MqReceive d room) name = receive_says past (held past p d) room
reply_says past p (MqTimedReceive d room until now) name =
    timed_says (ReceiveSays past (held past p d) room) until now _ (λ f. tt)
    (receive_says past (held past p d) room)
reply_says past p (MqGetattr d) name = attributes_says past (held past p d)
reply_says past p (MqSetattr d nonblock) name = attributes_says past (held past p d)
reply_says past p (MqNotify d value) name = notify_says past p (held past p d) value
reply_says past p call name = refl
