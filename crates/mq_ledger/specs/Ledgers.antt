use Rattle.std.specs.Prelude.{ℕ, ◌≡◌, ◌⊎◌, Bool, true, List, Option, Some, None}
use Rattle.mq_model.specs.declared.entries.Reply.{Reply}
use Rattle.mq_model.specs.declared.entries.Reply.TheVariants.{Got}
use Rattle.mq_laws.specs.Needed.{IsNeeded}
use Rattle.mq_model.specs.Record.{Past}
use Rattle.mq_ledger.specs.Seen.{HasPlace}

-- What the journal of a system shows: its records, the room that it has, whether it is stored, and
-- if not, which entries it keeps.
pub record Shown : Type 0 where
  pub records : Past
  pub entry_room : ℕ
  pub byte_room : ℕ
  pub stored : Bool
  pub places : List (Option ℕ)

-- the entry with this sequence number can be read
abbrev pub CanRead : Shown → ℕ → Type 0
CanRead s k = (s.stored ≡ true) ⊎ HasPlace s.places k

-- everything that may still be read can be read
abbrev pub IsReadable : Shown → Type 0
IsReadable s = (k : ℕ) → IsNeeded s.records k → CanRead s k

-- the message that a reply hands out can be read
abbrev pub CanReadGiven : Shown → Reply → Type 0
CanReadGiven s (Got place admitted notified) = CanRead s place
CanReadGiven s _ = Unit {0}

abbrev pub CanReadAdmitted : Shown → Option ℕ → Type 0
CanReadAdmitted s None = Unit {0}
CanReadAdmitted s (Some w) = CanRead s w
