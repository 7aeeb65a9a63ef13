-- The tables say what the definitions say about the journal.
use Rattle.std.specs.Prelude.{ℕ, Bool, ◌≡◌, ◌+◌, ◌≤◌, ◌<◌, true, false, List, [], ◌∷◌, ◌++◌, ◌&&◌, if◌then◌else◌, drop, All, slice_set, slice_index_or, length, Option, Some, None, int_le, nat_le, pos}
use Rattle.std.specs.Option.{unwrap_or}
use Rattle.mq_model.specs.Names.{bound_queue, creates, attributes_given, are_within_limits}
use Rattle.mq_model.specs.Descriptors.{called_queue}
use Rattle.mq_model.specs.declared.entries.Attr.{Attr}
use Rattle.mq_model.specs.declared.entries.Registration.{Registration}
use Rattle.mq_model.specs.declared.entries.Call.{Call}
use Rattle.mq_model.specs.declared.entries.Call.TheVariants.{MqOpen, MqUnlink, MqNotify, Collect}
use Rattle.mq_model.specs.Waits.{open_wait}
use Rattle.mq_state.specs.Buffers.{waiting_call}
use Rattle.mq_model.specs.declared.entries.Reply.{Reply}
use Rattle.mq_model.specs.declared.entries.Reply.TheVariants.{Done}
use Rattle.mq_model.specs.Record.{Past}
use Rattle.mq_model.specs.Threads.{shares}
use Rattle.mq_model.specs.Notices.{notices}
use Rattle.mq_model.specs.Owners.{OwnersMirror}
use Rattle.mq_model.specs.declared.callers.OpenWait.{OpenWait}
use Rattle.mq_model.specs.Limits.{most_processes}
use Rattle.mq_model.specs.Callers.{CallersMirror}
use Rattle.mq_model.specs.declared.callers.Caller.{Caller}
use Rattle.mq_model.specs.declared.owners.Owner.{Owner}
use Rattle.mq_state.specs.declared.moves.WaitMove.{WaitMove}
use Rattle.mq_state.specs.declared.moves.WaitMove.TheVariants.{Stays, Begins, Ends}
use Rattle.mq_state.specs.declared.moves.Moves.{Moves}
use Rattle.mq_state.specs.QueueShown.{QueueShown}
use Rattle.mq_state.specs.InboxShown.{InboxShown}
use Rattle.mq_state.specs.Queues.{QueuesMirror, registrations_in, fresh}
use Rattle.mq_slots.specs.Held.{Held}
use Rattle.mq_state.specs.Inboxes.{notices_in, room_in}

-- the callers of all entries are at most n
abbrev pub AreAtMost : ℕ → Past → Type 0
AreAtMost n past = All (λ r. r.entry.process ≤ n) past

-- the last process among n callers
abbrev pub last_process : ℕ → ℕ
last_process n = if nat_le n most_processes then n else most_processes

-- Caller p has the row at index p of the table of callers, and process p those at index p of the
-- tables of processes and of inboxes.
pub record TablesMirror (past : Past) (n : ℕ) (owners : List Owner) (callers : List Caller)
    (queues : List QueueShown) (inboxes : List InboxShown) : Type 0 where
  pub owner_count : length owners ≡ last_process n + 1
  pub caller_count : length callers ≡ n + 1
  pub inbox_count : length inboxes ≡ last_process n + 1
  pub lines : OwnersMirror past owners
  pub waits : CallersMirror past callers
  pub existing : QueuesMirror past queues
  pub notices : (p : ℕ) → notices_in inboxes p ≡ notices past p

-- The queue that an entry is about: the one that an open or an unlink names, or that of the
-- descriptor. If there is none, it is the sequence number of the entry, and so that of no queue.
abbrev pub entry_queue : Past → ℕ → Call → List ℕ → ℕ
entry_queue past p (MqOpen flags attr) name = unwrap_or (bound_queue past name) (length past)
entry_queue past p MqUnlink name = unwrap_or (bound_queue past name) (length past)
entry_queue past p call name = unwrap_or (called_queue past p call) (length past)

-- a caller with an open wait begins none, and one without ends none
abbrev pub MovesOwnWait : WaitMove → Option OpenWait → Type 0
MovesOwnWait Stays wait = Unit {0}
MovesOwnWait Begins wait = wait ≡ None
MovesOwnWait Ends wait = (w : OpenWait) × (wait ≡ Some w)

-- the calls in which callers wait, after an entry of caller p
abbrev pub calls_noted : WaitMove → ℕ → Call → List Call → List Call
calls_noted Begins p call calls = slice_set calls p call
calls_noted _ p call calls = calls

-- the call in which each caller waits is at its index
pub record AreCalls (past : Past) (n : ℕ) (calls : List Call) : Type 0 where
  pub count : length calls ≡ n + 1
  pub at : (p w : ℕ) → open_wait past p ≡ Some w →
      slice_index_or calls p Collect ≡ waiting_call past p

-- The messages of a new queue have their room, and the table of queues has room for the queue.
pub record IsFresh (call : Call) (queues : ℕ) (capacity : ℕ) (o : Held) : Type 0 where
  pub empty : o.messages ≡ []
  pub roomy : int_le (attributes_given call).maxmsg (pos o.cap) ≡ true
  pub place : queues < capacity

-- a queue that is created has attributes within the limits
abbrev pub CreatesWithin : Call → Reply → Type 0
CreatesWithin call reply = creates call reply ≡ true →
    are_within_limits (Some (attributes_given call)) ≡ true

-- an entry has the slots of a new queue if and only if it creates one
abbrev pub BringsOrder : Call → Reply → ℕ → ℕ → Option Held → Type 0
BringsOrder call reply queues capacity None = creates call reply ≡ false
BringsOrder call reply queues capacity (Some o) = (creates call reply ≡ true) ×
    IsFresh call queues capacity o

-- each process has room for the notices of all its registrations
abbrev pub HasNoticeRoom : List QueueShown → List InboxShown → Type 0
HasNoticeRoom queues inboxes = (p : ℕ) → registrations_in queues p ≤ room_in inboxes p

-- There is room for the notices of the registration that a call makes: as many as there are queues,
-- since a queue has at most one registration.
abbrev pub HasRoomToRegister : List QueueShown → List InboxShown → ℕ → Call → Reply → Type 0
HasRoomToRegister queues inboxes p (MqNotify d (Some v)) reply = reply ≡ Done →
    length queues ≤ room_in inboxes p
HasRoomToRegister queues inboxes p call reply = Unit {0}

-- How many notices an entry adds for caller p: one if it notifies a registration of its process.
abbrev pub notices_brought : Option Registration → Bool → ℕ → ℕ
notices_brought None notified p = 0
notices_brought (Some n) notified p = if notified && shares n.process p then 1 else 0

-- The notices of caller p's process after an entry. If the entry notifies the registration on its
-- queue, that adds one.
abbrev pub notified_values : Option Registration → Bool → ℕ → List ℕ → List ℕ
notified_values None notified p values = values
notified_values (Some n) notified p values = if notified && shares n.process p
    then values ++ n.value ∷ [] else values

-- and the oldest is removed if the entry gives it to its process
abbrev pub noted_values : ℕ → Option Registration → Moves → ℕ → List ℕ → List ℕ
noted_values process registered moves p values =
    if moves.given && shares process p
    then drop 1 (notified_values registered moves.notified p values)
    else notified_values registered moves.notified p values

abbrev pub with_fresh : Option Held → Attr → ℕ → List QueueShown → List QueueShown
with_fresh None given here queues = queues
with_fresh (Some o) given here queues = queues ++ fresh here o.cap given ∷ []
