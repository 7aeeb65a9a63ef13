-- What a journal shows. Lists of records have the latest first throughout: the last record is the
-- head. So a journal that starts with the journal `old` is `more ++ old`.
use Rattle.std.specs.Prelude.{ℕ, ◌+◌, ◌-◌, drop, List, [], ◌∷◌, ◌==◌, length, Option, Some, None, if◌then◌else◌}
use Rattle.mq_model.specs.declared.entries.Entry.{Entry}

-- What the numbers of the definitions stand for. A place is the sequence number of an entry: the
-- number of entries before it.
abbrev pub Place : Type 0
Place = ℕ

-- a caller, from 1: the numbers to 32 are those of the first threads, and so of the processes
abbrev pub Process : Type 0
Process = ℕ

-- a descriptor of a process
abbrev pub Descriptor : Type 0
Descriptor = ℕ

-- a queue, by the place of the open that created it
abbrev pub Queue : Type 0
Queue = Place

-- a message, by the place of its send
abbrev pub Message : Type 0
Message = Place

-- an entry of the journal with its payload
pub record Record : Type 0 where
  pub entry : Entry
  pub payload : List ℕ

-- The records so far, the latest first. The place of each is the number of records before it.
abbrev pub Past : Type 0
Past = List Record

-- the record at a place
abbrev pub record_at : Past → Place → Option Record
record_at [] place = None
record_at (r ∷ past) place = if place == length past then Some r else record_at past place

-- the oldest k records
abbrev pub first : ℕ → Past → Past
first k past = drop (length past - k) past

-- the number of payload bytes of the records
abbrev pub payload_bytes : Past → ℕ
payload_bytes [] = 0
payload_bytes (r ∷ past) = length r.payload + payload_bytes past

-- what a journal shows: its records, and the number of further entries and payload bytes for which
-- it has room
pub record Shown : Type 0 where
  pub records : Past
  pub entry_room : ℕ
  pub byte_room : ℕ
