-- What replies depend on, without sequence numbers: messages by their priority and bytes, waits by
-- their process, registrations by what their process gave, and queues by their names.
use Rattle.std.specs.Prelude.{ℕ, Bool, true, false, nat_le, List, [], ◌∷◌, map, Option, Some, None, if◌then◌else◌}
use Rattle.std.specs.Option.{option_map, unwrap_or}
use Rattle.mq_model.specs.Record.{Record, Past, Place, Process, Queue, record_at}
use Rattle.mq_model.specs.Names.{name_of}
use Rattle.mq_model.specs.Descriptors.{is_named}
use Rattle.mq_model.specs.Notices.{registered}
use Rattle.mq_model.specs.declared.entries.Registration.{Registration}
use Rattle.mq_model.specs.Messages.{is_send, present, priority_given, waiting_sends, waiting_receives}
use Rattle.mq_model.specs.Waits.{answered_by}

pub record Message : Type 0 where
  pub prio : ℕ
  pub bytes : List ℕ

-- a process that waits to send, and its message
pub record Sender : Type 0 where
  pub process : Process
  pub message : Message

abbrev pub sent : Record → Message
sent r = record { prio = priority_given r.entry.call; bytes = r.payload }

abbrev pub sender : Record → Sender
sender r = record { process = r.entry.process; message = sent r }

abbrev pub author : Record → Process
author r = r.entry.process

-- the message that a record sends, if it is a send
abbrev pub told : Record → Option Message
told r = if is_send r.entry.call then Some (sent r) else None

-- a fact about the record at a place
abbrev pub at : {X : Type 0} → (Record → X) → Past → Place → Option X
at f past place = option_map f (record_at past place)

-- An item joins a line: it stands behind all that have its rank or a higher one.
abbrev pub joined : {X : Type 0} → (X → ℕ) → X → List X → List X
joined rank x [] = x ∷ []
joined rank x (y ∷ line) =
    if nat_le (rank x) (rank y) then y ∷ joined rank x line else x ∷ (y ∷ line)

-- these items in line, of which the latest is given first
abbrev pub lined : {X : Type 0} → (X → ℕ) → List X → List X
lined rank [] = []
lined rank (x ∷ earlier) = joined rank x (lined rank earlier)

abbrev pub prio_of : Option Message → ℕ
prio_of message = unwrap_or (option_map (λ m. m.prio) message) 0

-- The messages in a queue, in the order in which they will be received: those of the highest
-- priority first, and of these the one that entered first.
abbrev pub contents : Past → Queue → List (Option Message)
contents past q = lined prio_of (map (at sent past) (present past q))

-- What matters of the messages in a queue: each of them if one may be received, and otherwise only
-- how many there are.
abbrev pub seen : Bool → List (Option Message) → List (Option Message)
seen true messages = messages
seen false messages = map (λ m. None) messages

-- the processes that wait to send, with their messages, and those that wait to receive, the latest
-- first
abbrev pub senders : Past → Queue → List (Option Sender)
senders past q = map (at sender past) (waiting_sends past q)

abbrev pub receivers : Past → Queue → List (Option Process)
receivers past q = map (at author past) (waiting_receives past q)

-- a process that waits to send, whatever its message is
abbrev pub unsent : Sender → Sender
unsent s = record { process = s.process; message = record { prio = 0; bytes = [] } }

-- what matters of the processes that wait to send
abbrev pub seen_senders : Bool → List (Option Sender) → List (Option Sender)
seen_senders true waiting = waiting
seen_senders false waiting = map (option_map unsent) waiting

-- what answered the open wait of a process, if anything did: the message of a send, or nothing
abbrev pub answer : Past → Process → Option (Option (Option Message))
answer past p = option_map (at told past) (answered_by past p)

-- the name of a queue, if it is still bound to it
abbrev pub bound_name : Past → Queue → Option (List ℕ)
bound_name past q = if is_named past q then Some (name_of past q) else None

-- a registration without its place: its process, its descriptor and its value
pub record Registered : Type 0 where
  pub process : Process
  pub d : ℕ
  pub value : ℕ

abbrev pub unplaced : Registration → Registered
unplaced n = record { process = n.process; d = n.d; value = n.value }

abbrev pub registered_as : Past → Queue → Option Registered
registered_as past q = option_map unplaced (registered past q)
