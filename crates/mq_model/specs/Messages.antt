-- The messages of a queue, and the calls that wait on it (mq_send, mq_receive).
use Rattle.std.specs.Prelude.{ℕ, Bool, true, false, ◌&&◌, ◌||◌, not, ◌==◌, nat_lt, nat_le, min, List, [], ◌∷◌, length, Option, Some, None, if◌then◌else◌}
use Rattle.std.specs.List.{list_any, list_all, filter, find}
use Rattle.std.specs.Option.{option_map, unwrap_or}
use Rattle.mq_model.specs.Record.{Past, record_at, Message, Place, Queue}
use Rattle.mq_model.specs.Names.{attributes}
use Rattle.mq_model.specs.Descriptors.{is_on}
use Rattle.mq_model.specs.ErrorOrder.{is_full_with}
use Rattle.mq_model.specs.declared.entries.Entry.{Entry}
use Rattle.mq_model.specs.declared.entries.Call.{Call}
use Rattle.mq_model.specs.declared.entries.Call.TheVariants.{MqSend, MqReceive, MqTimedSend, MqTimedReceive}
use Rattle.mq_model.specs.declared.entries.Reply.{Reply}
use Rattle.mq_model.specs.declared.entries.Reply.TheVariants.{Queued, Handed, Waits, Got, Withdrawn}

abbrev pub is_in : List Place → Place → Bool
is_in places place = list_any (λ k. k == place) places

-- a send, with or without a deadline
abbrev pub is_send : Call → Bool
is_send (MqSend d prio len) = true
is_send (MqTimedSend d prio len until now) = true
is_send _ = false

-- a receive, with or without a deadline
abbrev pub is_receive : Call → Bool
is_receive (MqReceive d room) = true
is_receive (MqTimedReceive d room until now) = true
is_receive _ = false

-- a send whose message entered its queue at once
abbrev pub queues : Call → Reply → Bool
queues call (Queued notified) = is_send call
queues call _ = false

-- a send whose message was handed to a waiting receive
abbrev pub hands_over : Call → Reply → Bool
hands_over call (Handed wait) = is_send call
hands_over call _ = false

-- a send that began to wait
abbrev pub blocks_send : Call → Reply → Bool
blocks_send call Waits = is_send call
blocks_send call _ = false

-- a receive that began to wait
abbrev pub blocks_receive : Call → Reply → Bool
blocks_receive call Waits = is_receive call
blocks_receive call _ = false

-- the waiting send that a reply admits to its queue
abbrev pub admits : Reply → Option Place
admits (Got place admitted notified) = admitted
admits _ = None

-- The waiting send that a reply ends: it is admitted, or withdrawn. This also names a receive that
-- is withdrawn, which does no harm, since that is no send.
abbrev pub ends_send : Reply → Option Place
ends_send (Got place admitted notified) = admitted
ends_send (Withdrawn wait) = Some wait
ends_send _ = None

-- the waiting receive that a reply ends: it is handed a message, or withdrawn
abbrev pub ends_receive : Reply → Option Place
ends_receive (Handed wait) = Some wait
ends_receive (Withdrawn wait) = Some wait
ends_receive _ = None

abbrev pub with_place : Option Place → List Place → List Place
with_place None places = places
with_place (Some k) places = k ∷ places

-- the sends whose wait has ended, and the receives whose wait has ended
abbrev pub ended_sends : Past → List Place
ended_sends [] = []
ended_sends (r ∷ past) = with_place (ends_send r.entry.reply) (ended_sends past)

abbrev pub ended_receives : Past → List Place
ended_receives [] = []
ended_receives (r ∷ past) = with_place (ends_receive r.entry.reply) (ended_receives past)

-- the sends to a queue that began to wait, and the receives, the latest first
abbrev pub blocked_sends : Past → Queue → List Place
blocked_sends [] q = []
blocked_sends (r ∷ past) q = if blocks_send r.entry.call r.entry.reply && is_on past r.entry q
    then length past ∷ blocked_sends past q else blocked_sends past q

abbrev pub blocked_receives : Past → Queue → List Place
blocked_receives [] q = []
blocked_receives (r ∷ past) q = if blocks_receive r.entry.call r.entry.reply && is_on past r.entry q
    then length past ∷ blocked_receives past q else blocked_receives past q

-- the sends that wait for room in the queue, and the receives that wait for a message
abbrev pub waiting_sends : Past → Queue → List Place
waiting_sends past q = filter (λ w. not (is_in (ended_sends past) w)) (blocked_sends past q)

abbrev pub waiting_receives : Past → Queue → List Place
waiting_receives past q = filter (λ w. not (is_in (ended_receives past) w))
    (blocked_receives past q)

-- the place, if it is in the list
abbrev pub if_in : List Place → Option Place → Option Place
if_in places None = None
if_in places (Some w) = if is_in places w then Some w else None

-- the message that enters queue q by an entry: that of a send queued at once, or of a waiting send
-- that a receive admits
abbrev pub entered : Past → Entry → Queue → Option Message
entered past e q =
    if queues e.call e.reply && is_on past e q then Some (length past)
    else if_in (blocked_sends past q) (admits e.reply)

-- The messages that entered the queue, the last to enter first. A message is named by the place of
-- its send. That of a waiting send enters when it is admitted.
abbrev pub admitted : Past → Queue → List Message
admitted [] q = []
admitted (r ∷ past) q = with_place (entered past r.entry q) (admitted past q)

-- the messages that were handed to a receive that waited on the queue
abbrev pub handed : Past → Queue → List Message
handed [] q = []
handed (r ∷ past) q = if hands_over r.entry.call r.entry.reply && is_on past r.entry q
    then length past ∷ handed past q else handed past q

-- the message was accepted: it entered the queue, or was handed over
abbrev pub is_accepted : Past → Queue → Message → Bool
is_accepted past q m = is_in (admitted past q) m || is_in (handed past q) m

-- the message that a reply takes: the one that it gives to its caller, or the one that the caller
-- handed over
abbrev pub taken_by : Place → Reply → Option Message
taken_by here (Got place admitted notified) = Some place
taken_by here (Handed wait) = Some here
taken_by here _ = None

abbrev pub taken : Past → List Message
taken [] = []
taken (r ∷ past) = with_place (taken_by (length past) r.entry.reply) (taken past)

-- the messages in the queue: those that entered it and were not taken, the last to enter first
abbrev pub present : Past → Queue → List Message
present past q = filter (λ m. not (is_in (taken past) m)) (admitted past q)

-- the queue holds as many messages as it can
abbrev pub is_full : Past → Queue → Bool
is_full past q = is_full_with (attributes past q) (length (present past q))

abbrev pub priority_given : Call → ℕ
priority_given (MqSend d prio len) = prio
priority_given (MqTimedSend d prio len until now) = prio
priority_given _ = 0

-- the priority of a message
abbrev pub priority : Past → Message → ℕ
priority past m = unwrap_or (option_map (λ r. priority_given r.entry.call) (record_at past m)) 0

-- Of these two messages m is received first, or they are the same: its priority is higher, or equal
-- and m is older.
abbrev pub goes_first : Past → Message → Message → Bool
goes_first past m n = nat_lt (priority past n) (priority past m) ||
    (priority past m == priority past n && nat_le m n)

-- the oldest message of the highest priority in the queue
abbrev pub best : Past → Queue → Option Message
best past q = find (λ m. list_all (goes_first past m) (present past q)) (present past q)

-- the least of these places
abbrev pub least : List Place → Option Place
least [] = None
least (k ∷ places) = Some (min k (unwrap_or (least places) k))
