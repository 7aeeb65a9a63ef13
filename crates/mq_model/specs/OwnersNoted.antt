-- What the table of processes becomes after one more entry.
use Rattle.std.specs.Prelude.{ℕ, ◌≡◌, ◌<◌, ◌≤◌, ◌+◌, List, ◌∷◌, [], replicate, Some, None}
use Rattle.mq_model.specs.Limits.{most_descriptors, most_processes}
use Rattle.mq_model.specs.Record.{Past}
use Rattle.mq_model.specs.Descriptors.{description, opened_queue, called_queue}
use Rattle.mq_model.specs.Legality.{Legal, IsLegalNext}
use Rattle.mq_model.specs.declared.entries.Entry.{Entry}
use Rattle.mq_model.specs.Owners.{with_slot, with_flag, OwnersMirror}
use Rattle.mq_model.specs.declared.entries.Call.{Call}
use Rattle.mq_model.specs.declared.entries.Call.TheVariants.{MqOpen, MqClose, MqSetattr}
use Rattle.mq_model.specs.declared.entries.Reply.{Reply}
use Rattle.mq_model.specs.declared.entries.Reply.TheVariants.{Opened, Waits, Attrs, Done}
use Rattle.mq_model.specs.declared.owners.Owner.{Owner}

abbrev pub noted_open : List Owner → ℕ → Call → ℕ → ℕ → List Owner
noted_open owners p (MqOpen flags attr) d q = with_slot owners p d (Some (description q flags))
noted_open owners p _ d q = owners

abbrev pub noted_done : List Owner → ℕ → Call → List Owner
noted_done owners p (MqClose d) = with_slot owners p d None
noted_done owners p _ = owners

abbrev pub noted_attributes : List Owner → ℕ → Call → List Owner
noted_attributes owners p (MqSetattr d nonblock) = with_flag owners p d nonblock
noted_attributes owners p _ = owners

-- the table after an entry of caller p, which is an open of queue q or another call
abbrev pub noted : List Owner → ℕ → Call → Reply → ℕ → List Owner
noted owners p call (Opened d created) q = noted_open owners p call d q
noted owners p call Done q = noted_done owners p call
noted owners p call (Attrs status) q = noted_attributes owners p call
noted owners p call _ q = owners

abbrev pub FitsDone : Call → Type 0
FitsDone (MqClose d) = d < most_descriptors
FitsDone _ = Unit {0}

abbrev pub FitsAttributes : Call → Type 0
FitsAttributes (MqSetattr d nonblock) = d < most_descriptors
FitsAttributes _ = Unit {0}

-- a descriptor that the entry changes has a number within the limit
abbrev pub FitsSlots : Call → Reply → Type 0
FitsSlots call (Opened d created) = d < most_descriptors
FitsSlots call Done = FitsDone call
FitsSlots call (Attrs status) = FitsAttributes call
FitsSlots call _ = Unit {0}

-- q is the queue that an open opened, or on which a call began to wait
abbrev pub EntryQueue : Past → ℕ → Call → List ℕ → Reply → ℕ → Type 0
EntryQueue past p call name (Opened d created) q = q ≡ opened_queue past name created
EntryQueue past p call name Waits q = called_queue past p call ≡ Some q
EntryQueue past p call name reply q = Unit {0}

-- If the old table is that of a journal after which the entry may follow, the new one is that of
-- the journal with the entry.
abbrev pub KeepsMirror : List Owner → Entry → ℕ → List Owner → Type 0
KeepsMirror old entry q new =
    (past : Past) (payload : List ℕ) → OwnersMirror past old → Legal past →
    IsLegalNext past (record { entry = entry; payload = payload }) →
    EntryQueue past entry.process entry.call payload entry.reply q →
    OwnersMirror (record { entry = entry; payload = payload } ∷ past) new

-- a table with only such rows, one for each process at most, is that of the empty journal
abbrev pub StartsMirror : Owner → Type 0
StartsMirror owner = (m : ℕ) → m ≤ most_processes + 1 → OwnersMirror [] (replicate m owner)
