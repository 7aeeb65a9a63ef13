-- Registrations for notification, and the notices that they produce (mq_notify, mq_close).
use Rattle.std.specs.Prelude.{ℕ, ◌+◌, Bool, true, false, ◌&&◌, ◌||◌, ◌==◌, List, [], ◌∷◌, ◌++◌, drop, length, Option, Some, None, if◌then◌else◌}
use Rattle.std.specs.Option.{option_map, option_to_list}
use Rattle.mq_model.specs.Record.{Record, Past, record_at, Descriptor, Place, Process, Queue}
use Rattle.mq_model.specs.Threads.{shares}
use Rattle.mq_model.specs.Descriptors.{is_place, is_on}
use Rattle.mq_model.specs.declared.entries.Registration.{Registration}
use Rattle.mq_model.specs.declared.entries.Entry.{Entry}
use Rattle.mq_model.specs.declared.entries.Call.{Call}
use Rattle.mq_model.specs.declared.entries.Call.TheVariants.{MqNotify, MqClose}
use Rattle.mq_model.specs.declared.entries.Reply.{Reply}
use Rattle.mq_model.specs.declared.entries.Reply.TheVariants.{Queued, Got, Notice, Done}

-- the registration that process p makes at a place by a call that succeeded
abbrev pub registration_by : Place → Process → Call → Option Registration
registration_by place p (MqNotify d (Some v)) = Some (record {
  place = place;
  process = p;
  d = d;
  value = v;
})
registration_by place p _ = None

abbrev pub registration_of : Place → Process → Call → Reply → Option Registration
registration_of place p call Done = registration_by place p call
registration_of place p call _ = None

abbrev pub only_if : Bool → Option Registration → Option Registration
only_if b None = None
only_if b (Some n) = if b then Some n else None

-- the place of the registration that a reply notified
abbrev pub notified : Reply → Option Place
notified (Queued k) = k
notified (Got place admitted k) = k
notified _ = None

abbrev pub is_removal : Call → Bool
is_removal (MqNotify d None) = true
is_removal _ = false

-- a removal that succeeded
abbrev pub removes : Call → Reply → Bool
removes call Done = is_removal call
removes call _ = false

abbrev pub is_close_of : Call → Descriptor → Bool
is_close_of (MqClose e) d = e == d
is_close_of _ d = false

-- a close of descriptor d that succeeded
abbrev pub closes : Call → Reply → Descriptor → Bool
closes call Done d = is_close_of call d
closes call _ d = false

-- An entry ends a registration: its reply notifies it, or its process removes it by a call on the
-- registration's queue, or its process closes the descriptor by which it was made.
abbrev pub ends : Bool → Entry → Registration → Bool
ends on e n =
    is_place n.place (notified e.reply)
    || ((removes e.call e.reply && on || closes e.call e.reply n.d) && shares e.process n.process)

abbrev pub unless : (Registration → Bool) → Option Registration → Option Registration
unless ended None = None
unless ended (Some n) = if ended n then None else Some n

abbrev pub or_else : Option Registration → Option Registration → Option Registration
or_else None before = before
or_else (Some n) before = Some n

-- The registration on a queue after the entry at place `here`. `before` is the one before it, and
-- `on` says whether the entry's call is made on the queue. It is the one that the entry makes
-- there, else the one before unless the entry ended it.
abbrev pub registration_after : Bool → Place → Entry → Option Registration → Option Registration
registration_after on here e before =
    or_else (only_if on (registration_of here e.process e.call e.reply)) (unless (ends on e) before)

-- a call that makes or ends registrations if it succeeds
abbrev pub is_about_registrations : Call → Bool
is_about_registrations (MqNotify d value) = true
is_about_registrations (MqClose d) = true
is_about_registrations _ = false

-- the registration on a queue: the latest one made there, unless a later entry ended it
abbrev pub registered : Past → Queue → Option Registration
registered [] q = None
registered (r ∷ past) q = registration_after (is_on past r.entry q) (length past) r.entry
    (registered past q)

-- the place of the registration on a queue
abbrev pub registered_place : Past → Queue → Option Place
registered_place past q = option_map (λ n. n.place) (registered past q)

-- the value that a notify gives
abbrev pub value_of_notify : Call → Option ℕ
value_of_notify (MqNotify d value) = value
value_of_notify _ = None

-- the value that process p gave to a registration
abbrev pub value_given : Process → Option Record → Option ℕ
value_given p None = None
value_given p (Some r) = if shares r.entry.process p then value_of_notify r.entry.call else None

abbrev pub value_notified : Past → Process → Option Place → Option ℕ
value_notified past p None = None
value_notified past p (Some k) = value_given p (record_at past k)

-- the values of the registrations of process p that were notified, in the order of those replies
abbrev pub values_notified : Past → Process → List ℕ
values_notified [] p = []
values_notified (r ∷ past) p = values_notified past p ++ option_to_list
    (value_notified past p (notified r.entry.reply))

abbrev pub gives_notice : Reply → Bool
gives_notice (Notice (Some v)) = true
gives_notice _ = false

-- how many notices process p has taken
abbrev pub notices_given : Past → Process → ℕ
notices_given [] p = 0
notices_given (r ∷ past) p = if gives_notice r.entry.reply && shares r.entry.process p
    then notices_given past p + 1 else notices_given past p

-- the notices that process p has not yet taken, the oldest first
abbrev pub notices : Past → Process → List ℕ
notices past p = drop (notices_given past p) (values_notified past p)
