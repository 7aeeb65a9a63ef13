-- Which descriptors the processes hold, and which queues exist (mq_open, mq_close, mq_setattr,
-- mq_unlink).
use Rattle.std.specs.Prelude.{ℕ, zero, suc, ◌+◌, Bool, false, ◌||◌, ◌==◌, List, [], ◌∷◌, length, Option, Some, None, is_none, is_some, if◌then◌else◌}
use Rattle.std.specs.List.{list_any, filter, find}
use Rattle.std.specs.Option.{option_map, option_and_then, unwrap_or}
use Rattle.mq_model.specs.Limits.{most_descriptors}
use Rattle.mq_model.specs.Record.{Past, Descriptor, Place, Process, Queue}
use Rattle.mq_model.specs.Names.{creates, bound_queue, name_of}
use Rattle.mq_model.specs.Threads.{shares}
use Rattle.mq_model.specs.declared.entries.Description.{Description}
use Rattle.mq_model.specs.declared.entries.OpenFlags.{OpenFlags}
use Rattle.mq_model.specs.declared.entries.Entry.{Entry}
use Rattle.mq_model.specs.declared.entries.Call.{Call}
use Rattle.mq_model.specs.declared.entries.Call.TheVariants.{MqOpen, MqClose, MqUnlink, MqSend, MqReceive, MqGetattr, MqTimedSend, MqTimedReceive, MqSetattr, MqNotify, NextNotice, Collect, Withdraw}
use Rattle.mq_model.specs.declared.entries.Reply.{Reply}
use Rattle.mq_model.specs.declared.entries.Reply.TheVariants.{Opened, Attrs, Done}

abbrev pub description : Queue → OpenFlags → Description
description q flags = record { queue = q; access = flags.access; nonblock = flags.nonblock }

abbrev pub with_nonblock : Bool → Description → Description
with_nonblock nonblock h = record { queue = h.queue; access = h.access; nonblock = nonblock }

-- The queue that a successful open opened: a new one, or the one that the name was bound to. In a
-- legal journal the 0 is never used, since an open that creates nothing found its name bound.
abbrev pub opened_queue : Past → List ℕ → Bool → Queue
opened_queue past name created = if created then length past
    else unwrap_or (bound_queue past name) 0

-- what descriptor d stands for after an open that returned e
abbrev pub after_open : Past → Call → List ℕ → Descriptor → Bool → Descriptor → Option Description →
    Option Description
after_open past (MqOpen flags attr) name e created d before = if e == d
    then Some (description (opened_queue past name created) flags) else before
after_open past _ name e created d before = before

-- what descriptor d stands for after a close
abbrev pub after_close : Call → Descriptor → Option Description → Option Description
after_close (MqClose e) d before = if e == d then None else before
after_close _ d before = before

-- what descriptor d stands for after a setattr
abbrev pub after_setattr : Call → Descriptor → Option Description → Option Description
after_setattr (MqSetattr e nonblock) d before = if e == d
    then option_map (with_nonblock nonblock) before else before
after_setattr _ d before = before

-- what descriptor d of a process stands for after an entry of that process, given what it stood for
-- before
abbrev pub held_after : Past → Call → List ℕ → Reply → Descriptor → Option Description →
    Option Description
held_after past call name (Opened e created) d before = after_open past call name e created d before
held_after past call name Done d before = after_close call d before
held_after past call name (Attrs status) d before = after_setattr call d before
held_after past call name _ d before = before

-- The description that process p holds under descriptor d: that of the latest open that returned d,
-- with the flag of the latest setattr after it; none if d was closed since.
abbrev pub held : Past → Process → Descriptor → Option Description
held [] p d = None
held (r ∷ past) p d = if shares r.entry.process p
    then held_after past r.entry.call r.payload r.entry.reply d (held past p d) else held past p d

abbrev pub numbers_from : ℕ → ℕ → List ℕ
numbers_from low zero = []
numbers_from low (suc n) = low ∷ numbers_from (low + 1) n

-- the numbers that a descriptor may have
unfoldable pub descriptor_numbers : List Descriptor
descriptor_numbers = numbers_from 0 most_descriptors

-- the lowest descriptor that process p does not hold
abbrev pub lowest_free : Past → Process → Option Descriptor
lowest_free past p = find (λ d. is_none (held past p d)) descriptor_numbers

-- the lowest descriptor that process p holds
abbrev pub lowest_held : Past → Process → Option Descriptor
lowest_held past p = find (λ d. is_some (held past p d)) descriptor_numbers

-- the optional place is k
abbrev pub is_place : Place → Option Place → Bool
is_place k None = false
is_place k (Some j) = j == k

-- the descriptor that a call names
abbrev pub descriptor_of : Call → Option Descriptor
descriptor_of (MqOpen flags attr) = None
descriptor_of (MqClose d) = Some d
descriptor_of MqUnlink = None
descriptor_of (MqSend d prio len) = Some d
descriptor_of (MqReceive d room) = Some d
descriptor_of (MqTimedSend d prio len until now) = Some d
descriptor_of (MqTimedReceive d room until now) = Some d
descriptor_of (MqGetattr d) = Some d
descriptor_of (MqSetattr d nonblock) = Some d
descriptor_of (MqNotify d value) = Some d
descriptor_of NextNotice = None
descriptor_of Collect = None
descriptor_of (Withdraw now) = None

-- the queue that a call is made on, through the descriptor that it names
abbrev pub called_queue : Past → Process → Call → Option Queue
called_queue past p call = option_map (λ h. h.queue) (option_and_then (held past p)
    (descriptor_of call))

-- the entry's call is made on queue q
abbrev pub is_on : Past → Entry → Queue → Bool
is_on past e q = is_place q (called_queue past e.process e.call)

-- the queues created so far, the latest first
abbrev pub created : Past → List Queue
created [] = []
created (r ∷ past) = if creates r.entry.call r.entry.reply then length past ∷ created past
    else created past

-- a process with a descriptor that it was given
pub record Holder : Type 0 where
  pub process : Process
  pub d : Descriptor

abbrev pub number_opened : Call → Descriptor → Option Descriptor
number_opened (MqOpen flags attr) d = Some d
number_opened _ d = None

-- the descriptor that an open returned
abbrev pub opened_number : Call → Reply → Option Descriptor
opened_number call (Opened d created) = number_opened call d
opened_number call _ = None

abbrev pub with_holder : Process → Option Descriptor → List Holder → List Holder
with_holder p None before = before
with_holder p (Some d) before = record { process = p; d = d } ∷ before

-- the processes that opened a queue, with the descriptors that they were given
abbrev pub openers : Past → List Holder
openers [] = []
openers (r ∷ past) = with_holder r.entry.process (opened_number r.entry.call r.entry.reply)
    (openers past)

-- some process holds a descriptor of the queue
abbrev pub is_held : Past → Queue → Bool
is_held past q = list_any (λ x. is_place q (option_map (λ h. h.queue) (held past x.process x.d)))
    (openers past)

-- the queue is still bound to its name
abbrev pub is_named : Past → Queue → Bool
is_named past q = is_place q (bound_queue past (name_of past q))

-- the queues that exist: those that are still bound to their names or are held by some process
abbrev pub alive : Past → List Queue
alive past = filter (λ q. is_named past q || is_held past q) (created past)
