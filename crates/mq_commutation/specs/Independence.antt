-- Independent calls: calls of two processes, neither of which depends on whether the other was made
-- before it.
use Rattle.std.specs.Prelude.{ℕ, Bool, true, false, ◌&&◌, ◌||◌, not, ◌==◌, nat_le, [], ◌∷◌, length, Option, Some, None, is_some, is_none, if◌then◌else◌}
use Rattle.std.specs.Option.{option_map, option_and_then}
use Rattle.mq_model.specs.Record.{Past, Process, Queue}
use Rattle.mq_model.specs.Threads.{owner_of, shares}
use Rattle.mq_model.specs.Descriptors.{called_queue}
use Rattle.mq_model.specs.Messages.{is_send, present, priority, priority_given}
use Rattle.mq_model.specs.Notices.{notified}
use Rattle.mq_model.specs.Waits.{open_wait}
use Rattle.mq_model.specs.Legality.{reply_to}
use Rattle.mq_model.specs.declared.entries.Call.{Call}
use Rattle.mq_model.specs.declared.entries.Call.TheVariants.{MqOpen, MqClose, MqUnlink, MqGetattr, MqSetattr, NextNotice, Withdraw}
use Rattle.mq_model.specs.declared.entries.Reply.{Reply}
use Rattle.mq_model.specs.declared.entries.Reply.TheVariants.{Queued, Got}
use Rattle.mq_equivalence.specs.Views.{Registered, registered_as}
use Rattle.mq_equivalence.specs.Runs.{Request}

abbrev pub reply_of : Past → Request → Reply
reply_of past a = reply_to past a.process a.call a.given

-- the queue of the call at a place
abbrev pub queue_of_call : Past → ℕ → Option Queue
queue_of_call [] place = None
queue_of_call (r ∷ past) place =
    if place == length past then called_queue past r.entry.process r.entry.call
    else queue_of_call past place

-- the queue that a call is about: that of its descriptor, and for a withdrawal that of its wait
abbrev pub queue_touched_by : Past → Process → Call → Option Queue
queue_touched_by past p (Withdraw now) = option_and_then (queue_of_call past) (open_wait past p)
queue_touched_by past p call = called_queue past p call

abbrev pub queue_touched : Past → Request → Option Queue
queue_touched past a = queue_touched_by past a.process a.call

-- the registration that a call notifies
abbrev pub notified_registration : Past → Process → Call → Reply → Option Registered
notified_registration past p call reply =
    if is_some (notified reply) then option_and_then (registered_as past) (called_queue past p call)
    else None

-- The process whose notices a call changes: its own process if it takes the next notice, else the
-- process that it notifies.
abbrev pub whose_notices_by : Past → Process → Call → Reply → Option Process
whose_notices_by past p NextNotice reply = Some (owner_of p)
whose_notices_by past p call reply =
    option_map (λ (n : Registered). owner_of n.process) (notified_registration past p call reply)

abbrev pub whose_notices : Past → Request → Option Process
whose_notices past a = whose_notices_by past a.process a.call (reply_of past a)

-- the two numbers, if both are given, differ
abbrev pub differ : Option ℕ → Option ℕ → Bool
differ (Some i) (Some j) = not (i == j)
differ _ _ = true

-- a call that binds a name or unbinds it
abbrev pub changes_names : Call → Bool
changes_names (MqOpen flags attr) = true
changes_names MqUnlink = true
changes_names _ = false

-- a call after which there may be more queues or fewer
abbrev pub changes_queues : Call → Bool
changes_queues (MqClose d) = true
changes_queues call = changes_names call

-- a call that only reads its queue
abbrev pub only_reads : Call → Bool
only_reads (MqGetattr d) = true
only_reads (MqSetattr d nonblock) = true
only_reads _ = false

-- a message of this priority is queued after the one that the receive gets, and neither call ends a
-- wait or a registration
abbrev pub passes_by : Past → ℕ → Reply → Reply → Bool
passes_by past prio (Queued None) (Got m None None) = nat_le prio (priority past m)
passes_by past prio _ _ = false

-- there is no registration on the queue, or the number of its messages is not one
abbrev pub stays_filled : Past → Option Queue → Bool
stays_filled past None = true
stays_filled past (Some q) = is_none (registered_as past q) || not (length (present past q) == 1)

-- a is a send and b a receive on the same queue that do not affect each other
abbrev pub passes : Past → Request → Request → Bool
passes past a b =
    is_send a.call && passes_by past (priority_given a.call) (reply_of past a) (reply_of past b)
    && stays_filled past (queue_touched past a)

-- Two calls of different processes, not both about names, that change the notices of different
-- processes. Either they are about different queues, or both only read, or one sends a message and
-- the other receives an older one or one of higher priority.
abbrev pub are_independent : Past → Request → Request → Bool
are_independent past a b =
    not (shares a.process b.process)
    && not (changes_names a.call && changes_queues b.call
    || changes_names b.call && changes_queues a.call)
    && differ (whose_notices past a) (whose_notices past b)
    && (differ (queue_touched past a) (queue_touched past b)
    || only_reads a.call && only_reads b.call || passes past a b || passes past b a)
