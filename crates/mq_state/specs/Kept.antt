use Rattle.std.specs.Prelude.{ℕ, Bool, ◌≡◌, ◌≢◌, ◌+◌, ◌≤◌, true, false, List, length, Option, Some, None, Result, Ok, Err, ◌⊎◌}
use Rattle.mq_model.specs.Record.{Past, payload_bytes}
use Rattle.mq_ledger.specs.Ledgers.{Shown, IsReadable}
use Rattle.mq_model.specs.Legality.{Legal, Appends}
use Rattle.mq_model.specs.Waits.{open_wait}
use Rattle.mq_model.specs.declared.entries.Call.{Call}
use Rattle.mq_model.specs.Bounds.{has_entry, exceeds, HeedsBounds}
use Rattle.mq_model.specs.declared.faults.Fault.{Fault}
use Rattle.mq_model.specs.declared.faults.Fault.TheVariants.{NoMemory, JournalFull}
use Rattle.mq_model.specs.declared.bounds.Bounds.{Bounds}
use Rattle.mq_model.specs.Callers.{waits_count}
use Rattle.mq_model.specs.declared.entries.Reply.{Reply}
use Rattle.mq_model.specs.declared.entries.Reply.TheVariants.{Waits, Collected, Refused, Withdrawn}
use Rattle.mq_state.specs.Pool.{IsPooled}
use Rattle.mq_state.specs.InboxShown.{InboxShown}
use Rattle.mq_state.specs.Inboxes.{notices_in, room_in}
use Rattle.mq_state.specs.Tables.{TablesMirror, AreAtMost, HasNoticeRoom, AreCalls}
use Rattle.mq_state.specs.WaitCounts.{KnowWaits}
use Rattle.mq_state.specs.declared.tables.Tables.{Tables}

-- What a `Books` shows: its records, the latest first, the number of its processes, the bounds of
-- its journal, the room for further payload bytes, and whether the journal is stored.
pub record Kept : Type 0 where
  pub records : Past
  pub n : ℕ
  pub bounds : Option Bounds
  pub byte_room : ℕ
  pub stored : Bool

-- the tables are those of the journal
abbrev pub Mirrors : Shown → Tables → Type 0
Mirrors j t = TablesMirror j.records t.n t.owners.items t.callers.items
    t.queues.items t.inboxes.items

-- The tables are those of these records, which are legal. The rows of the queues say which
-- processes wait, and there is room for the notice of each registration.
pub record AreThoseOf (past : Past) (t : Tables) : Type 0 where
  pub legal : Legal past
  pub few : t.n ≤ 2048
  pub mirror : TablesMirror past t.n t.owners.items t.callers.items t.queues.items t.inboxes.items
  pub waits : t.waits ≡ waits_count t.callers.items
  pub known : KnowWaits t.callers.items t.queues.items
  pub notice_room : HasNoticeRoom t.queues.items t.inboxes.items
  pub calls : AreCalls past t.n t.calls.items

-- tables that say the same, with at least as much room for notices
pub record SaysSame (old new : Tables) : Type 0 where
  pub n : new.n ≡ old.n
  pub bounds : new.bounds ≡ old.bounds
  pub waits : new.waits ≡ old.waits
  pub owners : new.owners.items ≡ old.owners.items
  pub callers : new.callers.items ≡ old.callers.items
  pub calls : new.calls.items ≡ old.calls.items
  pub queues : new.queues.items ≡ old.queues.items
  pub inbox_count : length new.inboxes.items ≡ length old.inboxes.items
  pub notices : (p : ℕ) → notices_in new.inboxes.items p ≡ notices_in old.inboxes.items p
  pub room : (p : ℕ) → room_in old.inboxes.items p ≤ room_in new.inboxes.items p

-- The room for the notices of each process with bounds: as many as there may be entries, and one
-- from each queue.
abbrev pub notice_room : Option Bounds → ℕ
notice_room None = 0
notice_room (Some b) = b.entries + 64

-- The same room, after this number of entries, each of which adds at most one notice.
abbrev pub HasNotices : Option Bounds → ℕ → ℕ → List InboxShown → Type 0
HasNotices bounds entries n inboxes = (p : ℕ) → p ≤ n →
    notice_room bounds ≤ entries + room_in inboxes p

-- The journal has room for all entries and payload bytes that the bounds allow, those already there
-- included.
abbrev pub HasRoomWithin : Option Bounds → Shown → Type 0
HasRoomWithin None j = Unit {0}
HasRoomWithin (Some b) j = (b.entries ≤ length j.records + j.entry_room) ×
    (b.bytes ≤ payload_bytes j.records + j.byte_room)

-- room for this many further entries and payload bytes is all that the bounds allow after these
-- records
abbrev pub IsRoomWithin : Option Bounds → Past → ℕ → ℕ → Type 0
IsRoomWithin None past entries bytes = Unit {0}
IsRoomWithin (Some b) past entries bytes = (b.entries ≤ length past + entries) ×
    (b.bytes ≤ payload_bytes past + bytes)

-- The tables are those of the journal, which has entries of the first n processes only. There is
-- room for the entry that ends each open wait, and for everything that the bounds allow. What may
-- still be read can be read, and with bounds the journal is stored.
pub record IsKeptBy (j : Shown) (t : Tables) : Type 0 where
  pub tables : AreThoseOf j.records t
  pub processes : AreAtMost t.n j.records
  pub room : waits_count t.callers.items ≤ j.entry_room
  pub bounded : HasRoomWithin t.bounds j
  pub notices : HasNotices t.bounds (length j.records) t.n t.inboxes.items
  pub readable : IsReadable j
  pub stored : t.bounds ≢ None → j.stored ≡ true

-- the same, and the message slots of the queues
pub record IsWhole (j : Shown) (t : Tables) : Type 0 where
  pub kept : IsKeptBy j t
  pub pool : IsPooled None t

-- process p may make a call: it is one of the processes and has no open wait
pub record MayCall (j : Shown) (t : Tables) (p : ℕ) : Type 0 where
  pub kept : IsKeptBy j t
  pub pool : IsPooled None t
  pub process : (1 ≤ p) × (p ≤ t.n)
  pub no_wait : open_wait j.records p ≡ None

-- A call of process p got its reply. It has its entry; or it has none, and the reply says that
-- memory was refused or the journal is full.
pub record IsCalled (j j' : Shown) (t t' : Tables) (p : ℕ) (call : Call) (given : List ℕ)
    (reply : Reply) : Type 0 where
  pub entry : has_entry reply ≡ true → Appends j.records j'.records p call given reply
  pub no_entry : has_entry reply ≡ false → j'.records ≡ j.records
  pub no_less : has_entry reply ≡ false → j.byte_room ≤ j'.byte_room
  pub heeds : HeedsBounds t.bounds j.records p call given reply
  pub kept : IsKeptBy j' t'
  pub pool : IsPooled None t'
  pub n : t'.n ≡ t.n
  pub bounds : t'.bounds ≡ t.bounds
  pub stored : j'.stored ≡ j.stored

-- What a call of process p with this reply did. It appended its entry; or nothing if the reply has
-- no entry, and then no room for bytes is lost. The reply is `JournalFull` if and only if the call
-- finds the journal full, and never `NoMemory` with bounds.
pub record IsMade (old new : Kept) (p : ℕ) (call : Call) (given : List ℕ)
    (reply : Reply) : Type 0 where
  pub entry : has_entry reply ≡ true → Appends old.records new.records p call given reply
  pub no_entry : has_entry reply ≡ false → new.records ≡ old.records
  pub no_less : has_entry reply ≡ false → old.byte_room ≤ new.byte_room
  pub full : HeedsBounds old.bounds old.records p call given reply
  pub processes : new.n ≡ old.n
  pub bounds : new.bounds ≡ old.bounds
  pub stored : new.stored ≡ old.stored

-- Room for the entry, for the entry that ends each open wait, and for that of a wait that the entry
-- begins. A collect or a withdraw uses the room that was kept for it.
abbrev pub HasEntryRoom : Reply → ℕ → ℕ → Type 0
HasEntryRoom Waits waits room = waits + 2 ≤ room
HasEntryRoom (Collected by) waits room = waits ≤ room
HasEntryRoom (Withdrawn wait) waits room = waits ≤ room
HasEntryRoom _ waits room = waits + 1 ≤ room

-- The result of a request for room, with which there would be this many entries and payload bytes.
-- It is `JournalFull` if and only if that exceeds the bounds. With bounds it fails for no other
-- reason.
pub record IsRoomRefused (bounds : Option Bounds) (entries bytes : ℕ)
    (result : Result (Unit {0}) Fault) : Type 0 where
  pub full : exceeds bounds entries bytes ≡ true → result ≡ Err JournalFull
  pub room : exceeds bounds entries bytes ≡ false →
      (result ≡ Ok tt) ⊎ ((result ≡ Err NoMemory) × (bounds ≡ None))

-- a reply with an error other than `NoMemory` used no room for bytes
abbrev pub SparesBytes : Shown → Shown → Reply → Type 0
SparesBytes j j' reply = (fault : Fault) → reply ≡ Refused fault → fault ≢ NoMemory →
    j'.byte_room ≡ j.byte_room
