-- The definitions for processes that have one thread each: the number in an entry is that of a
-- process, 1 to 32, with its own descriptors, registrations, notices and wait. Each definition is
-- word for word that of the same name in mq_model, but for `==` where that has `shares`, and 32
-- where that has the number of callers.
use Rattle.std.specs.Prelude.{ℕ, ◌≡◌, ◌+◌, Bool, false, ◌&&◌, ◌||◌, not, ◌==◌, nat_le, List, [], ◌∷◌, ◌++◌, drop, length, Option, Some, None, is_some, is_none, if◌then◌else◌, slice_get, IsTrue}
use Rattle.std.specs.List.{list_any, list_all, filter, find}
use Rattle.std.specs.Option.{option_map, option_and_then, option_to_list, unwrap_or}
use Rattle.mq_model.specs.Limits.{most_processes}
use Rattle.mq_model.specs.Record.{Record, Past, record_at, Descriptor, Place, Process, Queue, Message}
use Rattle.mq_model.specs.Names.{bound_queue, attributes}
use Rattle.mq_model.specs.Descriptors.{held_after, descriptor_numbers, is_place, descriptor_of, openers, created, is_named}
use Rattle.mq_model.specs.Messages.{is_in, queues, hands_over, blocks_send, blocks_receive, ended_sends, ended_receives, with_place, if_in, admits, taken, goes_first, least}
use Rattle.mq_model.specs.Notices.{registration_of, only_if, or_else, unless, notified, removes, closes, value_of_notify, gives_notice}
use Rattle.mq_model.specs.Waits.{open_wait, answered_by}
use Rattle.mq_model.specs.ErrorOrder.{is_full_with, open_reply, close_reply, unlink_reply, send_reply, receive_reply, timed_reply, status_reply}
use Rattle.mq_model.specs.Legality.{may_call, is_payload}
use Rattle.mq_model.specs.declared.error_order.OpenFacts.{OpenFacts}
use Rattle.mq_model.specs.declared.error_order.SendFacts.{SendFacts}
use Rattle.mq_model.specs.declared.error_order.ReceiveFacts.{ReceiveFacts}
use Rattle.mq_model.specs.declared.error_order.StatusFacts.{StatusFacts}
use Rattle.mq_model.specs.declared.error_order.NotifyFacts.{NotifyFacts}
use Rattle.mq_model.specs.declared.faults.Fault.TheVariants.{BadDescriptor, Busy, Invalid}
use Rattle.mq_model.specs.declared.entries.Attr.{Attr}
use Rattle.mq_model.specs.declared.entries.OpenFlags.{OpenFlags}
use Rattle.mq_model.specs.declared.entries.Description.{Description}
use Rattle.mq_model.specs.declared.entries.Registration.{Registration}
use Rattle.mq_model.specs.declared.entries.Entry.{Entry}
use Rattle.mq_model.specs.declared.entries.Call.{Call}
use Rattle.mq_model.specs.declared.entries.Call.TheVariants.{MqOpen, MqClose, MqUnlink, MqSend, MqReceive, MqTimedSend, MqTimedReceive, MqGetattr, MqSetattr, MqNotify, NextNotice, Collect, Withdraw}
use Rattle.mq_model.specs.declared.entries.Reply.{Reply}
use Rattle.mq_model.specs.declared.entries.Reply.TheVariants.{Collected, Withdrawn, Notice, Refused, Done}

-- The description that process p holds under descriptor d: that of the latest open that returned d,
-- with the flag of the latest setattr after it; none if d was closed since.
abbrev pub held : Past → Process → Descriptor → Option Description
held [] p d = None
held (r ∷ past) p d = if r.entry.process == p
    then held_after past r.entry.call r.payload r.entry.reply d (held past p d) else held past p d

-- the lowest descriptor that process p does not hold
abbrev pub lowest_free : Past → Process → Option Descriptor
lowest_free past p = find (λ d. is_none (held past p d)) descriptor_numbers

-- the lowest descriptor that process p holds
abbrev pub lowest_held : Past → Process → Option Descriptor
lowest_held past p = find (λ d. is_some (held past p d)) descriptor_numbers

-- the queue that a call is made on, through the descriptor that it names
abbrev pub called_queue : Past → Process → Call → Option Queue
called_queue past p call = option_map (λ h. h.queue) (option_and_then (held past p)
    (descriptor_of call))

-- the entry's call is made on queue q
abbrev pub is_on : Past → Entry → Queue → Bool
is_on past e q = is_place q (called_queue past e.process e.call)

-- some process holds a descriptor of the queue
abbrev pub is_held : Past → Queue → Bool
is_held past q = list_any (λ x. is_place q (option_map (λ h. h.queue) (held past x.process x.d)))
    (openers past)

-- the queues that exist: those that are still bound to their names or are held by some process
abbrev pub alive : Past → List Queue
alive past = filter (λ q. is_named past q || is_held past q) (created past)

-- the sends to a queue that began to wait, and the receives, the latest first
abbrev pub blocked_sends : Past → Queue → List Place
blocked_sends [] q = []
blocked_sends (r ∷ past) q = if blocks_send r.entry.call r.entry.reply && is_on past r.entry q
    then length past ∷ blocked_sends past q else blocked_sends past q

abbrev pub blocked_receives : Past → Queue → List Place
blocked_receives [] q = []
blocked_receives (r ∷ past) q = if blocks_receive r.entry.call r.entry.reply && is_on past r.entry q
    then length past ∷ blocked_receives past q else blocked_receives past q

-- the sends that wait for room in the queue, and the receives that wait for a message
abbrev pub waiting_sends : Past → Queue → List Place
waiting_sends past q = filter (λ w. not (is_in (ended_sends past) w)) (blocked_sends past q)

abbrev pub waiting_receives : Past → Queue → List Place
waiting_receives past q = filter (λ w. not (is_in (ended_receives past) w))
    (blocked_receives past q)

-- the message that enters queue q by an entry: that of a send queued at once, or of a waiting send
-- that a receive admits
abbrev pub entered : Past → Entry → Queue → Option Message
entered past e q =
    if queues e.call e.reply && is_on past e q then Some (length past)
    else if_in (blocked_sends past q) (admits e.reply)

-- The messages that entered the queue, the last to enter first. A message is named by the place of
-- its send. That of a waiting send enters when it is admitted.
abbrev pub admitted : Past → Queue → List Message
admitted [] q = []
admitted (r ∷ past) q = with_place (entered past r.entry q) (admitted past q)

-- the messages that were handed to a receive that waited on the queue
abbrev pub handed : Past → Queue → List Message
handed [] q = []
handed (r ∷ past) q = if hands_over r.entry.call r.entry.reply && is_on past r.entry q
    then length past ∷ handed past q else handed past q

-- the message was accepted: it entered the queue, or was handed over
abbrev pub is_accepted : Past → Queue → Message → Bool
is_accepted past q m = is_in (admitted past q) m || is_in (handed past q) m

-- the messages in the queue: those that entered it and were not taken, the last to enter first
abbrev pub present : Past → Queue → List Message
present past q = filter (λ m. not (is_in (taken past) m)) (admitted past q)

-- the queue holds as many messages as it can
abbrev pub is_full : Past → Queue → Bool
is_full past q = is_full_with (attributes past q) (length (present past q))

-- the oldest message of the highest priority in the queue
abbrev pub best : Past → Queue → Option Message
best past q = find (λ m. list_all (goes_first past m) (present past q)) (present past q)

-- An entry ends a registration: its reply notifies it, or its process removes it by a call on the
-- registration's queue, or its process closes the descriptor by which it was made.
abbrev pub ends : Bool → Entry → Registration → Bool
ends on e n =
    is_place n.place (notified e.reply)
    || ((removes e.call e.reply && on || closes e.call e.reply n.d) && e.process == n.process)

-- The registration on a queue after the entry at place `here`. `before` is the one before it, and
-- `on` says whether the entry's call is made on the queue. It is the one that the entry makes
-- there, else the one before unless the entry ended it.
abbrev pub registration_after : Bool → Place → Entry → Option Registration → Option Registration
registration_after on here e before =
    or_else (only_if on (registration_of here e.process e.call e.reply)) (unless (ends on e) before)

-- the registration on a queue: the latest one made there, unless a later entry ended it
abbrev pub registered : Past → Queue → Option Registration
registered [] q = None
registered (r ∷ past) q = registration_after (is_on past r.entry q) (length past) r.entry
    (registered past q)

-- the place of the registration on a queue
abbrev pub registered_place : Past → Queue → Option Place
registered_place past q = option_map (λ n. n.place) (registered past q)

-- the value that process p gave to a registration
abbrev pub value_given : Process → Option Record → Option ℕ
value_given p None = None
value_given p (Some r) = if r.entry.process == p then value_of_notify r.entry.call else None

abbrev pub value_notified : Past → Process → Option Place → Option ℕ
value_notified past p None = None
value_notified past p (Some k) = value_given p (record_at past k)

-- the values of the registrations of process p that were notified, in the order of those replies
abbrev pub values_notified : Past → Process → List ℕ
values_notified [] p = []
values_notified (r ∷ past) p = values_notified past p ++ option_to_list
    (value_notified past p (notified r.entry.reply))

-- how many notices process p has taken
abbrev pub notices_given : Past → Process → ℕ
notices_given [] p = 0
notices_given (r ∷ past) p = if gives_notice r.entry.reply && r.entry.process == p
    then notices_given past p + 1 else notices_given past p

-- the notices that process p has not yet taken, the oldest first
abbrev pub notices : Past → Process → List ℕ
notices past p = drop (notices_given past p) (values_notified past p)

-- the registration is one of process p
abbrev pub is_of : ℕ → Option Registration → Bool
is_of p None = false
is_of p (Some n) = n.process == p

-- mq_notify of process p, with the value of a registration, or none for a removal
abbrev pub notify_reply : ℕ → Option ℕ → Option NotifyFacts → Reply
notify_reply p value None = Refused BadDescriptor
notify_reply p (Some v) (Some facts) = if is_some facts.registered then Refused Busy else Done
notify_reply p None (Some facts) = if is_of p facts.registered then Done else Refused Invalid

abbrev pub open_facts : Past → Process → List ℕ → OpenFacts
open_facts past p name = record {
  bound = is_some (bound_queue past name);
  free = lowest_free past p;
  queues = length (alive past);
}

-- a send depends on the receive that has waited longest, and a receive on the send
abbrev pub send_facts : Past → Description → SendFacts
send_facts past h = record {
  description = h;
  attributes = attributes past h.queue;
  count = length (present past h.queue);
  waiting = least (waiting_receives past h.queue);
  registered = registered_place past h.queue;
}

abbrev pub receive_facts : Past → Description → ReceiveFacts
receive_facts past h = record {
  description = h;
  attributes = attributes past h.queue;
  count = length (present past h.queue);
  best = best past h.queue;
  waiting = least (waiting_sends past h.queue);
  registered = registered_place past h.queue;
}

abbrev pub status_facts : Past → Description → StatusFacts
status_facts past h = record {
  description = h;
  attributes = attributes past h.queue;
  count = length (present past h.queue);
}

abbrev pub notify_facts : Past → Description → NotifyFacts
notify_facts past h = record { registered = registered past h.queue }

-- mq_open
abbrev pub reply_to_open : Past → Process → OpenFlags → Option Attr → List ℕ → Reply
reply_to_open past p flags attr name = open_reply flags attr (open_facts past p name)

-- mq_send, given what the process holds under its descriptor
abbrev pub reply_to_send : Past → Option Description → ℕ → ℕ → Reply
reply_to_send past held prio len = send_reply prio len (option_map (send_facts past) held)

-- mq_receive
abbrev pub reply_to_receive : Past → Option Description → ℕ → Reply
reply_to_receive past held room = receive_reply room (option_map (receive_facts past) held)

-- mq_getattr, and mq_setattr, which returns the attributes from before
abbrev pub reply_to_attributes : Past → Option Description → Reply
reply_to_attributes past held = status_reply (option_map (status_facts past) held)

-- mq_notify
abbrev pub reply_to_notify : Past → Process → Option Description → Option ℕ → Reply
reply_to_notify past p held value = notify_reply p value (option_map (notify_facts past) held)

-- The reply to a call of process p. `name` is the name of an open or an unlink. In a legal journal
-- the 0 of a collect or a withdraw is never used, since a process collects only after its wait is
-- answered, and withdraws only an open wait.
abbrev pub reply_to : Past → Process → Call → List ℕ → Reply
reply_to past p (MqOpen flags attr) name = reply_to_open past p flags attr name
reply_to past p (MqClose d) name = close_reply (held past p d)
reply_to past p MqUnlink name = unlink_reply (bound_queue past name)
reply_to past p (MqSend d prio len) name = reply_to_send past (held past p d) prio len
reply_to past p (MqReceive d room) name = reply_to_receive past (held past p d) room
reply_to past p (MqTimedSend d prio len until now) name = timed_reply until now
    (reply_to_send past (held past p d) prio len)
reply_to past p (MqTimedReceive d room until now) name = timed_reply until now
    (reply_to_receive past (held past p d) room)
reply_to past p (MqGetattr d) name = reply_to_attributes past (held past p d)
reply_to past p (MqSetattr d nonblock) name = reply_to_attributes past (held past p d)
reply_to past p (MqNotify d value) name = reply_to_notify past p (held past p d) value
reply_to past p NextNotice name = Notice (slice_get (notices past p) 0)
reply_to past p Collect name = Collected (unwrap_or (answered_by past p) 0)
reply_to past p (Withdraw now) name = Withdrawn (unwrap_or (open_wait past p) 0)

-- the record may follow these
pub record IsLegalNext (past : Past) (r : Record) : Type 0 where
  pub process : IsTrue (nat_le 1 r.entry.process && nat_le r.entry.process most_processes)
  pub turn : IsTrue (may_call past r.entry.process r.entry.call)
  pub payload : IsTrue (is_payload r.entry.call r.entry.reply r.payload)
  pub reply : r.entry.reply ≡ reply_to past r.entry.process r.entry.call r.payload

-- each record may follow those before it
abbrev pub Legal : Past → Type 0
Legal [] = Unit {0}
Legal (r ∷ past) = Legal past × IsLegalNext past r
