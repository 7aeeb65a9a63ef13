-- With bounds there is room for all that they allow.
use Rattle.std.proofs.Common.{◌≡◌, ℕ, ◌+◌, ◌≤◌, true, false, List, ◌∷◌, length, Option, None, Result, Ok, Err, arith, rules, IsOk}
use Rattle.std.specs.Result.{is_err}
use Rattle.mq_model.specs.Record.{Record, Past, payload_bytes}
use Rattle.mq_ledger.specs.Ledgers.{Shown}
use Rattle.mq_model.specs.Bounds.{open_waits, exceeds, entries_needed, bytes_needed, finds_full}
use Rattle.mq_model.specs.Legality.{Appends, reply_to, payload_of}
use Rattle.mq_model.specs.declared.bounds.Bounds.{Bounds}
use Rattle.mq_model.specs.declared.entries.Call.{Call}
use Rattle.mq_model.specs.declared.entries.Reply.{Reply}
use Rattle.mq_model.specs.declared.entries.Reply.TheVariants.{Refused}
use Rattle.mq_model.specs.declared.faults.Fault.{Fault}
use Rattle.mq_model.proofs.NoWant.{replies-other, replies-room}
use Rattle.mq_model.proofs.OpenCount.{open_waits-counted}
use Rattle.mq_model.specs.Callers.{waits_count}
use Rattle.mq_state.specs.Pool.{IsPooled}
use Rattle.mq_state.specs.Requests.{without_deadline, IsGiven}
use Rattle.mq_state.specs.Tables.{AreAtMost}
use Rattle.mq_state.specs.Kept.{AreThoseOf, HasRoomWithin, IsKeptBy, IsCalled, IsRoomRefused, HasEntryRoom}
use Rattle.mq_state.specs.declared.tables.Tables.{Tables}

-- the tables count the open waits
pub waits-counted : (past : Past) (t : Tables) → AreThoseOf past t → AreAtMost t.n past →
    waits_count t.callers.items ≡ open_waits past
waits-counted past t tables few = open_waits-counted past t.callers.items t.n tables.legal
    tables.mirror.waits tables.mirror.caller_count tables.few few

pub waits-open : (j : Shown) (t : Tables) → IsKeptBy j t →
    waits_count t.callers.items ≡ open_waits j.records
waits-open j t kept = waits-counted j.records t kept.tables kept.processes

-- if they are not exceeded, and there is no room, there are no bounds
pub unbounded : (o : Option Bounds) (j : Shown) (w k m : ℕ) → HasRoomWithin o j →
    exceeds o (length j.records + w + k) (payload_bytes j.records + m) ≡ false →
    ((w + k ≤ j.entry_room) → (m ≤ j.byte_room) → ⊥) → o ≡ None
unbounded o j w k m has within none = grind arith

-- the room that the bounds allow is there after one more record
pub room-keeps : (o : Option Bounds) (j j' : Shown) (r : Record) → HasRoomWithin o j →
    j'.records ≡ r ∷ j.records → j.entry_room ≤ j'.entry_room + 1 →
    j.byte_room ≤ j'.byte_room + length r.payload → HasRoomWithin o j'
room-keeps o j j' r has is entries bytes = search rules

-- the room that was there was given
pub not-both : {X E : Type 0} (r : Result X E) → IsOk r → is_err r ≡ true → ⊥
not-both r ok err = grind arith

-- what the calls of the tables ensure -------------------------------------------------------------

-- a call that fails because there is no room
pub called-refused : (j j' : Shown) (t : Tables) (p : ℕ) (call : Call) (given : List ℕ) (k m : ℕ)
    (fault : Fault) (result : Result (Unit {0}) Fault) →
    finds_full t.bounds j.records p call given ≡
    exceeds t.bounds (length j.records + open_waits j.records + k) (payload_bytes j.records + m) →
    IsRoomRefused t.bounds (length j.records + open_waits j.records + k)
    (payload_bytes j.records + m) result → result ≡ Err fault → j'.records ≡ j.records →
    j.byte_room ≤ j'.byte_room → IsKeptBy j' t → IsPooled None t → j'.stored ≡ j.stored →
    IsCalled j j' t t p call given (Refused fault)
called-refused j j' t p call given k m fault result full room is same no_less kept pool stored =
    grind arith

-- one that gets its reply: `between` is the journal with room made
pub called : (j between j' : Shown) (t t' : Tables) (p : ℕ) (call : Call) (given : List ℕ)
    (reply : Reply) (k m : ℕ) (result : Result (Unit {0}) Fault) →
    finds_full t.bounds j.records p call given ≡
    exceeds t.bounds (length j.records + open_waits j.records + k) (payload_bytes j.records + m) →
    IsRoomRefused t.bounds (length j.records + open_waits j.records + k)
    (payload_bytes j.records + m) result → result ≡ Ok tt →
    reply ≡ reply_to j.records p call given → between.records ≡ j.records →
    Appends between.records j'.records p call given reply → IsKeptBy j' t' → IsPooled None t' →
    t'.n ≡ t.n → t'.bounds ≡ t.bounds → j'.stored ≡ j.stored →
    IsCalled j j' t t' p call given reply
called j between j' t t' p call given reply k m result full room is answers same appends kept pool
    n bounds stored =
    grind (
      arith,
      replies-other j.records p call given reply answers,
      replies-room j.records p call
          given reply answers,
    )

-- what is full, by the needs of the call
pub full-by : (o : Option Bounds) (past : Past) (p : ℕ) (call : Call) (given : List ℕ) (k m : ℕ) →
    entries_needed call ≡ k → bytes_needed past p call given ≡ m →
    finds_full o past p call given ≡ exceeds o (length past + open_waits past + k)
    (payload_bytes past + m)
full-by o past p call given k m entries bytes = cc

-- what a call needs room for, by its reply without its deadline
pub needs : (o : Option Bounds) (past : Past) (p : ℕ) (call : Call) (given : List ℕ) (plain : Reply)
    (k m : ℕ) → plain ≡ reply_to past p (without_deadline call) given → k ≡ entries_needed call →
    m ≡ length (payload_of call plain given) →
    finds_full o past p call given ≡ exceeds o (length past + open_waits past + k)
    (payload_bytes past + m)
needs o past p call given plain k m is entries bytes = grind arith

-- a deadline keeps no more
pub keeps-less : (past : Past) (p : ℕ) (call : Call) (given : List ℕ) (plain reply : Reply) →
    plain ≡ reply_to past p (without_deadline call) given → reply ≡ reply_to past p call given →
    length (payload_of call reply given) ≤ length (payload_of call plain given)
keeps-less past p call given plain reply is answers = grind arith

-- that room is enough for the entry of the call with its reply
pub entry-room : (past : Past) (p : ℕ) (call : Call) (given : List ℕ) (reply : Reply) (w room : ℕ) →
    reply ≡ reply_to past p call given → IsGiven call given → w + entries_needed call ≤ room →
    HasEntryRoom reply w room
entry-room past p call given reply w room answers = grind arith
