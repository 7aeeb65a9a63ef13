-- The state key of a journal: numbers that are the same only if two journals are equivalent.
use Rattle.std.specs.Prelude.{ℕ, ℤ, pos, negsuc, suc, ◌+◌, ◌*◌, ◌%◌, ◌==◌, max, Bool, true, false, List, [], ◌∷◌, ◌++◌, length, map, Option, Some, None, if◌then◌else◌}
use Rattle.std.specs.Option.{unwrap_or}
use Rattle.mq_model.specs.Record.{Past, Process, Queue}
use Rattle.mq_model.specs.Names.{attributes}
use Rattle.mq_model.specs.Descriptors.{alive, held, numbers_from}
use Rattle.mq_model.specs.Notices.{notices}
use Rattle.mq_model.specs.Waits.{wait_deadline}
use Rattle.mq_model.specs.declared.entries.Access.{Access}
use Rattle.mq_model.specs.declared.entries.Access.TheVariants.{Read, Write, Both}
use Rattle.mq_model.specs.declared.entries.Attr.{Attr}
use Rattle.mq_model.specs.declared.entries.Deadline.{Deadline}
use Rattle.mq_model.specs.declared.entries.Description.{Description}
use Rattle.mq_model.specs.declared.entries.Reply.{Reply}
use Rattle.mq_model.specs.declared.entries.Reply.TheVariants.{Opened}
use Rattle.mq_state.specs.Buffers.{waiting_room}
use Rattle.mq_equivalence.specs.Views.{Message, Registered, Sender, answer, bound_name, contents, lined, receivers, registered_as, seen, seen_senders, senders}

-- values as numbers, which can be decoded even if other numbers follow
-- ------------------------------

abbrev pub codes : {X : Type 0} → (X → List ℕ) → List X → List ℕ
codes code [] = []
codes code (x ∷ xs) = code x ++ codes code xs

-- a list, after its length
abbrev pub listed : {X : Type 0} → (X → List ℕ) → List X → List ℕ
listed code xs = length xs ∷ codes code xs

abbrev pub optional : {X : Type 0} → (X → List ℕ) → Option X → List ℕ
optional code None = 0 ∷ []
optional code (Some x) = 1 ∷ code x

abbrev pub number : ℕ → List ℕ
number n = n ∷ []

abbrev pub test : Bool → List ℕ
test false = 0 ∷ []
test true = 1 ∷ []

abbrev pub signed : ℤ → List ℕ
signed (pos n) = 0 ∷ (n ∷ [])
signed (negsuc n) = 1 ∷ (n ∷ [])

abbrev pub bytes_code : List ℕ → List ℕ
bytes_code bytes = length bytes ∷ bytes

abbrev pub access_number : Access → ℕ
access_number Read = 0
access_number Write = 1
access_number Both = 2

abbrev pub limits_code : Attr → List ℕ
limits_code a = signed a.maxmsg ++ signed a.msgsize

abbrev pub deadline_code : Deadline → List ℕ
deadline_code t = signed t.sec ++ signed t.nsec

-- A number by which names are put in order. Few names have the same.
abbrev pub name_number : List ℕ → ℕ
name_number [] = 0
name_number (b ∷ bytes) = (b + 257 * name_number bytes) % 4294967296

-- the number of the name of a queue, and 0 if it is unlinked
abbrev pub name_rank : Past → Queue → ℕ
name_rank past q = name_number (unwrap_or (bound_name past q) [])

-- The queues that exist, in the order of a key: by their names, whichever was created first, and
-- then those that are unlinked.
abbrev pub queues_by_name : Past → List Queue
queues_by_name past = lined (name_rank past) (alive past)

-- the index of a queue among these
abbrev pub index_of : List Queue → Queue → ℕ
index_of [] q = 0
index_of (k ∷ queues) q = if k == q then 0 else suc (index_of queues q)

abbrev pub description_code : List Queue → Description → List ℕ
description_code queues h =
    index_of queues h.queue ∷ (access_number h.access ∷ test h.nonblock)

abbrev pub message_code : Message → List ℕ
message_code m = m.prio ∷ bytes_code m.bytes

abbrev pub sender_code : Sender → List ℕ
sender_code s = s.process ∷ message_code s.message

abbrev pub registered_code : Registered → List ℕ
registered_code n = n.process ∷ (n.d ∷ (n.value ∷ []))

-- A queue: its name, its limits, its messages, the processes that wait to send, with their
-- messages, those that wait to receive, and the registration. If no receive is to come, only the
-- number of messages, and no message of a send that waits.
abbrev pub queue_code : Bool → Past → Queue → List ℕ
queue_code received past q =
    optional bytes_code (bound_name past q)
    ++ (limits_code (attributes past q)
    ++ (listed (optional message_code) (seen received (contents past q))
    ++ (listed (optional sender_code) (seen_senders received (senders past q))
    ++ (listed (optional number) (receivers past q)
    ++ optional registered_code (registered_as past q)))))

-- one more than every process that called, and one more than every descriptor that an open returned
abbrev pub process_bound : Past → ℕ
process_bound [] = 0
process_bound (r ∷ past) = max (process_bound past) (r.entry.process + 1)

abbrev pub above_number : Reply → ℕ
above_number (Opened d created) = d + 1
above_number reply = 0

abbrev pub number_bound : Past → ℕ
number_bound [] = 0
number_bound (r ∷ past) = max (number_bound past) (above_number r.entry.reply)

-- A process: the buffer length and the deadline of its open wait, what answered the wait, its
-- notices, and what it holds under each number below `width`.
abbrev pub process_code : ℕ → Past → Process → List ℕ
process_code width past p =
    optional number (waiting_room past p)
    ++ (optional deadline_code (wait_deadline past p)
    ++ (optional (optional (optional message_code)) (answer past p)
    ++ (listed number (notices past p)
    ++ listed (optional (description_code (queues_by_name past)))
    (map (held past p) (numbers_from 0 width)))))

-- the queues that exist, and the processes below `count`
abbrev pub key_within : Bool → ℕ → ℕ → Past → List ℕ
key_within received count width past =
    listed (queue_code received past) (queues_by_name past)
    ++ listed (process_code width past) (numbers_from 0 count)

-- the key if receives are to come, or if none is
abbrev pub key_if : Bool → Past → List ℕ
key_if received past = key_within received (process_bound past) (number_bound past) past

abbrev pub key_of : Past → List ℕ
key_of past = key_if true past
