-- What a call of a process adds to the journal. Lists of records have the latest first, so later
-- records are in front.
use Rattle.std.specs.Prelude.{ℕ, ◌≡◌, ◌<◌, ◌≤◌, Bool, true, false, List, [], ◌∷◌, ◌++◌, length, map, slice_get, Option, Some, None, Result, Ok, Err, ◌⊎◌, OnOk, IfErr, if◌then◌else◌}
use Rattle.fast_mutex.specs.Items.{LockId, Ticket, Grows}
use Rattle.fast_mutex.specs.Marks.{answer_bits}
use Rattle.mq_model.specs.Record.{Record, Past}
use Rattle.mq_model.specs.Descriptors.{lowest_held}
use Rattle.mq_model.specs.Deadlines.{deadline_of}
use Rattle.mq_model.specs.Waits.{open_wait, wait_deadline, answered_by, is_answered}
use Rattle.mq_model.specs.Legality.{Legal, payload_of}
use Rattle.mq_model.specs.Bounds.{has_entry, finds_full, HeedsBounds}
use Rattle.mq_model.specs.declared.bounds.Bounds.{Bounds}
use Rattle.mq_model.specs.declared.entries.Received.{Received}
use Rattle.mq_model.specs.declared.entries.Deadline.{Deadline}
use Rattle.mq_model.specs.declared.entries.Call.{Call}
use Rattle.mq_model.specs.declared.entries.Call.TheVariants.{MqClose, MqSend, MqReceive, MqTimedSend, MqTimedReceive, Collect, Withdraw}
use Rattle.mq_model.specs.declared.entries.Reply.{Reply}
use Rattle.mq_model.specs.declared.entries.Reply.TheVariants.{Waits, Collected, Withdrawn, Done, Refused}
use Rattle.mq_model.specs.declared.faults.Fault.{Fault}
use Rattle.mq_model.specs.declared.faults.Fault.TheVariants.{TimedOut}
use Rattle.mq_state.specs.Buffers.{filled, with_front, message_at, received_at, collected, collected_into, waiting_call, waiting_room, room_of}
use Rattle.mq_state.specs.Kept.{Kept}
use Rattle.mq_state.specs.declared.collected.Collected.{Collected as Outcome}
use Rattle.mq.specs.Says.{send_says, receive_says}

abbrev pub author : Record → ℕ
author r = r.entry.process

-- the record of a call with these bytes, a name or a message
abbrev pub recorded : ℕ → Call → List ℕ → Reply → Record
recorded p call given reply = record {
  entry = record { process = p; call = call; reply = reply };
  payload = payload_of call reply given;
}

-- What a call adds to the journal: its record, or nothing if memory was refused or the journal is
-- full.
abbrev pub made : ℕ → Call → List ℕ → Reply → Past
made p call given reply = if has_entry reply then recorded p call given reply ∷ [] else []

-- the fixed part of the state: the number of processes, the bounds of the journal, and whether it
-- is stored
abbrev pub fixed_of : ℕ → Option Bounds → Bool → List ℕ
fixed_of n None true = n ∷ []
fixed_of n None false = n ∷ 0 ∷ []
fixed_of n (Some b) true = n ∷ b.entries ∷ b.bytes ∷ []
fixed_of n (Some b) false = n ∷ b.entries ∷ b.bytes ∷ 0 ∷ []

abbrev pub bounds_in : List ℕ → Option Bounds
bounds_in (n ∷ entries ∷ bytes ∷ rest) = Some (record { entries = entries; bytes = bytes })
bounds_in _ = None

abbrev pub stored_in : List ℕ → Bool
stored_in (n ∷ k ∷ []) = false
stored_in (n ∷ entries ∷ bytes ∷ k ∷ rest) = false
stored_in _ = true

-- the bounds of the system that a process belongs to
abbrev pub bounds_of : Ticket Record → Option Bounds
bounds_of t = bounds_in t.lock.fixed

abbrev pub IsFree : Ticket Record → Type 0
IsFree t = open_wait t.left t.number ≡ None

-- `rooms` has the buffer length that the open wait of the process with this ticket needs, at the
-- index of its number.
pub record IsRoomOf (rooms : List (Option ℕ)) (t : Ticket Record) : Type 0 where
  pub number : t.number < 33
  pub room : slice_get rooms t.number ≡ Some (waiting_room t.left t.number)

-- the process waits in this call
pub record WaitsIn (t : Ticket Record) (waited : Call) : Type 0 where
  pub call : waiting_call t.left t.number ≡ waited
  pub room : waiting_room t.left t.number ≡ Some (room_of waited)
  pub deadline : wait_deadline t.left t.number ≡ deadline_of waited

-- the buffer length that the wait needs which a reply begins
abbrev pub wait_begun : Reply → ℕ → Option ℕ
wait_begun Waits room = Some room
wait_begun _ room = None

-- For one process and one lock: the journal now left is legal and starts with the one left before.
-- Of the records added since, the process's own are exactly `own`.
pub record Calls (old new : Ticket Record) (own : Past) : Type 0 where
  pub lock : new.lock ≡ old.lock
  pub number : new.number ≡ old.number
  pub legal : Legal new.left
  pub grows : Grows author old.number old.left new.left own

-- If a poll has told the process that its wait is answered, it has left a journal that answers it.
abbrev pub KeepsAnswered : Ticket Record → Ticket Record → Type 0
KeepsAnswered old new = old.told ≡ true → is_answered new.left new.number ≡ true

-- The journal that a call found. The call added its record to it, and its reply is `JournalFull` if
-- and only if it found the journal full.
pub record Found (old new : Ticket Record) (call : Call) (given : List ℕ)
    (reply : Reply) : Type 0 where
  pub journal : Past
  pub added : new.left ≡ made old.number call given reply ++ journal
  pub heeds : HeedsBounds (bounds_of old) journal old.number call given reply

-- A call in one critical section. It left its record, or none if memory was refused or the journal
-- is full, and its result is what the reply says.
pub record OneCall {R : Type 0} (says : Reply → Option R) (old new : Ticket Record) (call : Call)
    (given : List ℕ) (result : R) : Type 0 where
  pub reply : Reply
  pub calls : Calls old new (made old.number call given reply)
  pub found : Found old new call given reply
  pub says_so : says reply ≡ Some result

-- A receive in one critical section. The buffer held `before`, and now holds `after`.
pub record ReceiveCall {R : Type 0} (says : Past → Reply → Option R) (old new : Ticket Record)
    (call : Call) (before after : List ℕ) (result : R) : Type 0 where
  pub reply : Reply
  pub calls : Calls old new (made old.number call [] reply)
  pub found : Found old new call [] reply
  pub says_so : says new.left reply ≡ Some result
  pub buffer : after ≡ filled new.left reply before

-- A collect that found the wait answered, by the entry with sequence number `by` of the journal
-- found. It left one record, and returns the outcome of the wait.
pub record Collects (old new : Ticket Record) (result : Outcome)
    (before after : List ℕ) : Type 0 where
  pub found : Past
  pub by : ℕ
  pub added : new.left ≡ recorded old.number Collect [] (Collected by) ∷ found
  pub answered : answered_by found old.number ≡ Some by
  pub call : waiting_call found old.number ≡ waiting_call old.left old.number
  pub calls : Calls old new (recorded old.number Collect [] (Collected by) ∷ [])
  pub value : collected found old.number ≡ Some result
  pub buffer : after ≡ collected_into found old.number before

-- a collect that found the wait not answered: it left no record
pub record StillWaits (old new : Ticket Record) : Type 0 where
  pub calls : Calls old new []
  pub wait : waiting_room new.left new.number ≡ waiting_room old.left old.number
  pub call : waiting_call new.left new.number ≡ waiting_call old.left old.number
  pub unanswered : is_answered new.left new.number ≡ false

-- A wait that a call began in its first critical section. The ticket of the process after that was
-- `begun`.
pub record Begins (old begun : Ticket Record) (call : Call) (given : List ℕ) : Type 0 where
  pub calls : Calls old begun (recorded old.number call given Waits ∷ [])
  pub found : Found old begun call given Waits

-- A call that waited left two records: the wait, and then the collect, which names the entry that
-- answered the wait. The journal that it leaves extends the one in which the wait began.
pub record Waited (old new : Ticket Record) (call : Call) (given : List ℕ) (by : ℕ) : Type 0 where
  pub begun : Ticket Record
  pub begins : Begins old begun call given
  pub ends : Calls begun new (recorded old.number Collect [] (Collected by) ∷ [])
  pub calls : Calls old new (recorded old.number Collect [] (Collected by) ∷
      recorded old.number call given Waits ∷ [])

-- a send that waited, and was then accepted
pub record WaitedSend (old new : Ticket Record) (call : Call) (given : List ℕ)
    (result : Result (Unit {0}) Fault) : Type 0 where
  pub by : ℕ
  pub waited : Waited old new call given by
  pub is : result ≡ Ok tt

-- a receive that waited, and then got the message of the send that answered it
pub record WaitedReceive (old new : Ticket Record) (call : Call) (before after : List ℕ)
    (result : Result Received Fault) : Type 0 where
  pub by : ℕ
  pub waited : Waited old new call [] by
  pub is : result ≡ Ok (received_at new.left by)
  pub buffer : after ≡ with_front (message_at new.left by) before

-- this call, which sends: without a wait, or with one that was answered
abbrev pub Sends : Ticket Record → Ticket Record → Call → List ℕ → Result (Unit {0}) Fault → Type 0
Sends old new call bytes result = OneCall send_says old new call bytes result ⊎
    WaitedSend old new call bytes result

-- a send, without a wait or with one
abbrev pub SendCall : Ticket Record → Ticket Record → ℕ → List ℕ → ℕ → Result (Unit {0}) Fault →
    Type 0
SendCall old new d bytes prio result = Sends old new (MqSend d prio (length bytes)) bytes result

-- This call, which receives, in the same way. The buffer held `before`, and now holds `after`.
abbrev pub Receives : Ticket Record → Ticket Record → Call → List ℕ → List ℕ →
    Result Received Fault → Type 0
Receives old new call before after result = ReceiveCall receive_says old new call before after
    result ⊎ WaitedReceive old new call before after result

-- a receive, without a wait or with one
abbrev pub WholeReceive : Ticket Record → Ticket Record → ℕ → List ℕ → List ℕ →
    Result Received Fault → Type 0
WholeReceive old new d before after result = Receives old new (MqReceive d (length before))
    before after result

-- The end of a wait that no entry answered. It left one record, the withdrawal of that wait at the
-- time `now`.
pub record WithdrawsAt (now : Deadline) (old new : Ticket Record) : Type 0 where
  pub wait : ℕ
  pub is : open_wait old.left old.number ≡ Some wait
  pub calls : Calls old new (recorded old.number (Withdraw now) [] (Withdrawn wait) ∷ [])

-- the same, at a time that the clock can return
pub record Withdraws (gives : Deadline → Type 0) (old new : Ticket Record) : Type 0 where
  pub now : Deadline
  pub moment : gives now
  pub withdraws : WithdrawsAt now old new

-- A timed call that waited until its deadline. It left two records, the wait and then its
-- withdrawal, in a journal that extends the one in which the wait began. Its result says that it
-- timed out.
pub record Expired {R : Type 0} (gives : Deadline → Type 0) (old new : Ticket Record) (call : Call)
    (given : List ℕ) (result : Result R Fault) : Type 0 where
  pub now : Deadline
  pub moment : gives now
  pub wait : ℕ
  pub begun : Ticket Record
  pub begins : Begins old begun call given
  pub ends : Calls begun new (recorded old.number (Withdraw now) [] (Withdrawn wait) ∷ [])
  pub calls : Calls old new (recorded old.number (Withdraw now) [] (Withdrawn wait) ∷
      recorded old.number call given Waits ∷ [])
  pub is : result ≡ Err TimedOut

-- A send with a deadline, made at a time that its clock can return: without a wait, after a wait
-- that was answered, or after one that was withdrawn.
pub record TimedSend (gives : Deadline → Type 0) (old new : Ticket Record) (d : ℕ) (bytes : List ℕ)
    (prio : ℕ) (until : Deadline) (result : Result (Unit {0}) Fault) : Type 0 where
  pub now : Deadline
  pub moment : gives now
  pub how : OneCall send_says old new (MqTimedSend d prio (length bytes) until now) bytes result ⊎
      WaitedSend old new (MqTimedSend d prio (length bytes) until now) bytes result
      ⊎ Expired gives old new (MqTimedSend d prio (length bytes) until now) bytes result

-- A receive with a deadline, in the same way. If it was withdrawn, the buffer is unchanged.
pub record TimedReceive (gives : Deadline → Type 0) (old new : Ticket Record) (d : ℕ)
    (before after : List ℕ) (until : Deadline) (result : Result Received Fault) : Type 0 where
  pub now : Deadline
  pub moment : gives now
  pub how : ReceiveCall receive_says old new (MqTimedReceive d (length before) until now) before
      after result ⊎ WaitedReceive old new (MqTimedReceive d (length before) until now)
      before after result
      ⊎ Expired gives old new (MqTimedReceive d (length before) until now) [] result ×
      (after ≡ before)

-- closes of these descriptors by process p, the latest first
abbrev pub closes : ℕ → List ℕ → Past
closes p ds = map (λ d. recorded p (MqClose d) [] Done) ds

-- Each of them closed the lowest descriptor that the process then held, when the journal was not
-- full.
abbrev pub AreInTurn : Option Bounds → Past → ℕ → List ℕ → Type 0
AreInTurn bounds found p [] = Unit {0}
AreInTurn bounds found p (d ∷ ds) = AreInTurn bounds found p ds ×
    (lowest_held (closes p ds ++ found) p ≡ Some d) ×
    (finds_full bounds (closes p ds ++ found) p (MqClose d) [] ≡ false)

-- From the journal found to the one left, process p closed descriptors, always its lowest, and none
-- when the journal was full.
pub record Closing (bounds : Option Bounds) (found after : Past) (p : ℕ) : Type 0 where
  pub ds : List ℕ
  pub is : after ≡ closes p ds ++ found
  pub in_turn : AreInTurn bounds found p ds

-- An exit that stopped at descriptor d, the lowest that is still held. For its close memory was
-- refused, or the journal was full.
pub record Stops (bounds : Option Bounds) (left : Past) (p : ℕ) (fault : Fault) : Type 0 where
  pub d : ℕ
  pub lowest : lowest_held left p ≡ Some d
  pub unentered : has_entry (Refused fault) ≡ false
  pub heeds : HeedsBounds bounds left p (MqClose d) [] (Refused fault)

-- An exit. It left only closes. If it succeeds, the process holds no descriptor. It fails only if
-- memory is refused or the journal is full.
pub record Exits (old new : Ticket Record) (result : Result (Unit {0}) Fault) : Type 0 where
  pub found : Past
  pub closing : Closing (bounds_of old) found new.left old.number
  pub calls : Calls old new (closes old.number closing.ds)
  pub ok : OnOk result (lowest_held new.left new.number ≡ None)
  pub err : IfErr result (Stops (bounds_of old) new.left old.number)

-- inside the critical section
-- ----------------------------------------------------------------------

-- the answers of the processes 1 to 32 in a journal, as the bits of a number
abbrev pub answered_bits : Past → ℕ
answered_bits past = answer_bits (λ p. is_answered past p) 1 32

-- What a process in its critical section knows of the journal found: which waits are answered, and
-- how many records there are.
pub record Knows (stay : Ticket Record) (answers places : ℕ) : Type 0 where
  pub answers_are : answers ≡ answered_bits stay.left
  pub places_are : places ≡ length stay.left

-- what a process value without its seat shows
abbrev pub no_ticket : Ticket Record
no_ticket = record {
  lock = record {
    table = record {
      words = 0;
      slots = 0;
      views_name = 0;
      atom = 0;
      block = 0;
      offset = 0;
      slot_names = [];
    };
    count = 0;
    fixed = [];
  };
  number = 0;
  left = [];
  told = false;
}

-- what a process value shows
abbrev pub ticket_of : {A : Type 0} → (A → Ticket Record) → Option A → Ticket Record
ticket_of f (Some seat) = f seat
ticket_of f None = no_ticket

-- A process with this ticket entered this critical section as process p, and found these books.
pub record Came (old : Ticket Record) (system : LockId) (stay : Ticket Record) (books : Kept)
    (p : ℕ) : Type 0 where
  pub lock : stay.lock ≡ system
  pub number : stay.number ≡ old.number
  pub process : p ≡ old.number
  pub some : 1 ≤ p
  pub few : p ≤ books.n
  pub n : books.n ≡ system.count
  pub bounds : books.bounds ≡ bounds_in system.fixed
  pub stored : books.stored ≡ stored_in system.fixed
  pub found : stay.left ≡ books.records
  pub grows : Grows author old.number old.left books.records []
  pub told : old.told ≡ true → is_answered books.records old.number ≡ true

-- A process that is acquiring the lock or holds it: the process as it was before, and how many
-- accesses to words of the lock it has made.
pub record Entrant : Type 0 where
  pub process : Ticket Record
  pub accesses : ℕ

-- A process that is acquiring the lock: its number, the buffer length that its open wait needs, and
-- that the lock is that of a system.
pub record UnderWay (t : Ticket Record) (number : ℕ) (waits : Option ℕ) : Type 0 where
  pub number_is : number ≡ t.number
  pub waits_is : waits ≡ waiting_room t.left t.number
  pub fixed_is : t.lock.fixed ≡ fixed_of t.lock.count (bounds_in t.lock.fixed)
      (stored_in t.lock.fixed)
