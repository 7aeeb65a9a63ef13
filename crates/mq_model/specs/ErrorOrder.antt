-- The reply to each call, from the facts that it depends on: the cases of the standard, in the
-- order of errors.
use Rattle.std.specs.Prelude.{ℕ, pos, Bool, true, false, ◌&&◌, not, ◌==◌, nat_le, Option, Some, None, is_some, is_none, if◌then◌else◌, int_lt, int_le}
use Rattle.std.specs.Option.{unwrap_or}
use Rattle.mq_model.specs.Limits.{most_queues, most_priorities}
use Rattle.mq_model.specs.Names.{are_within_limits}
use Rattle.mq_model.specs.Threads.{shares}
use Rattle.mq_model.specs.Deadlines.{is_moment, has_passed}
use Rattle.mq_model.specs.declared.entries.Deadline.{Deadline}
use Rattle.mq_model.specs.declared.entries.Access.{Access}
use Rattle.mq_model.specs.declared.entries.Access.TheVariants.{Read, Write, Both}
use Rattle.mq_model.specs.declared.entries.Attr.{Attr}
use Rattle.mq_model.specs.declared.entries.OpenFlags.{OpenFlags}
use Rattle.mq_model.specs.declared.entries.Description.{Description}
use Rattle.mq_model.specs.declared.entries.Registration.{Registration}
use Rattle.mq_model.specs.declared.entries.Reply.{Reply}
use Rattle.mq_model.specs.declared.entries.Reply.TheVariants.{Opened, Queued, Handed, Waits, Got, Attrs, Done, Refused}
use Rattle.mq_model.specs.declared.faults.Fault.TheVariants.{Again, BadDescriptor, Busy, Exists, Invalid, TooManyOpen, MessageSize, NoEntry, NoSpace, TimedOut}
use Rattle.mq_model.specs.declared.error_order.OpenFacts.{OpenFacts}
use Rattle.mq_model.specs.declared.error_order.SendFacts.{SendFacts}
use Rattle.mq_model.specs.declared.error_order.ReceiveFacts.{ReceiveFacts}
use Rattle.mq_model.specs.declared.error_order.StatusFacts.{StatusFacts}
use Rattle.mq_model.specs.declared.error_order.NotifyFacts.{NotifyFacts}

abbrev pub is_read_only : Access → Bool
is_read_only Read = true
is_read_only Write = false
is_read_only Both = false

abbrev pub is_write_only : Access → Bool
is_write_only Read = false
is_write_only Write = true
is_write_only Both = false

-- a queue with these attributes and this number of messages is full
abbrev pub is_full_with : Attr → ℕ → Bool
is_full_with attributes count = int_le attributes.maxmsg (pos count)

-- mq_open
abbrev pub open_reply : OpenFlags → Option Attr → OpenFacts → Reply
open_reply flags attr facts =
    if flags.create && flags.excl && facts.bound then Refused Exists
    else (if not flags.create && not facts.bound then Refused NoEntry
    else (if not facts.bound && not (are_within_limits attr) then Refused Invalid
    else (if is_none facts.free then Refused TooManyOpen
    else (if not facts.bound && nat_le most_queues facts.queues then Refused NoSpace
    else Opened (unwrap_or facts.free 0) (not facts.bound)))))

-- mq_close, given what the process holds under the descriptor
abbrev pub close_reply : Option Description → Reply
close_reply held = if is_some held then Done else Refused BadDescriptor

-- mq_unlink, given the queue that the name is bound to
abbrev pub unlink_reply : Option ℕ → Reply
unlink_reply bound = if is_some bound then Done else Refused NoEntry

-- A send without an error, given the receive that has waited longest, whether the queue is full,
-- and the registration that the message notifies. The message is handed to that receive if there is
-- one; otherwise it waits if the queue is full; otherwise it is queued.
abbrev pub accepted_reply : Option ℕ → Bool → Option ℕ → Reply
accepted_reply (Some wait) full notified = Handed wait
accepted_reply None full notified = if full then Waits else Queued notified

-- mq_send, given its priority and length. A message that is queued notifies if the queue was empty.
abbrev pub send_reply : ℕ → ℕ → Option SendFacts → Reply
send_reply prio len None = Refused BadDescriptor
send_reply prio len (Some facts) =
    if is_read_only facts.description.access then Refused BadDescriptor
    else (if nat_le most_priorities prio then Refused Invalid
    else (if int_lt facts.attributes.msgsize (pos len) then Refused MessageSize
    else (if is_full_with facts.attributes facts.count && facts.description.nonblock
    then Refused Again
    else accepted_reply facts.waiting (is_full_with facts.attributes facts.count)
    (if facts.count == 0 then facts.registered else None))))

-- A receive without an earlier error, given the descriptor's flag, the best message, the send that
-- has waited longest, and the registration that is notified. Without a message it fails or waits;
-- otherwise it gets the message, and that send is admitted.
abbrev pub found_reply : Bool → Option ℕ → Option ℕ → Option ℕ → Reply
found_reply nonblock None waiting notified = if nonblock then Refused Again else Waits
found_reply nonblock (Some m) waiting notified = Got m waiting notified

-- mq_receive, given the length of its buffer. A message that is admitted to a queue that became
-- empty notifies.
abbrev pub receive_reply : ℕ → Option ReceiveFacts → Reply
receive_reply room None = Refused BadDescriptor
receive_reply room (Some facts) =
    if is_write_only facts.description.access then Refused BadDescriptor
    else (if int_lt (pos room) facts.attributes.msgsize then Refused MessageSize
    else found_reply facts.description.nonblock facts.best facts.waiting
    (if is_some facts.waiting && facts.count == 1 then facts.registered else None))

-- mq_timedsend and mq_timedreceive, given the reply to the same call without a deadline. The
-- deadline matters only if that would wait.
abbrev pub timed_reply : Deadline → Deadline → Reply → Reply
timed_reply until now Waits =
    if not (is_moment until) then Refused Invalid
    else (if has_passed until now then Refused TimedOut
    else Waits)
timed_reply until now reply = reply

-- mq_getattr, and mq_setattr, which returns the attributes from before
abbrev pub status_reply : Option StatusFacts → Reply
status_reply None = Refused BadDescriptor
status_reply (Some facts) = Attrs (record {
  nonblock = facts.description.nonblock;
  maxmsg = facts.attributes.maxmsg;
  msgsize = facts.attributes.msgsize;
  curmsgs = pos facts.count;
})

-- the registration is one of process p
abbrev pub is_of : ℕ → Option Registration → Bool
is_of p None = false
is_of p (Some n) = shares n.process p

-- mq_notify of process p, with the value of a registration, or none for a removal
abbrev pub notify_reply : ℕ → Option ℕ → Option NotifyFacts → Reply
notify_reply p value None = Refused BadDescriptor
notify_reply p (Some v) (Some facts) = if is_some facts.registered then Refused Busy else Done
notify_reply p None (Some facts) = if is_of p facts.registered then Done else Refused Invalid
