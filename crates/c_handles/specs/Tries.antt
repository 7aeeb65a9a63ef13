-- The effect of a try of a call.
use Rattle.std.specs.Prelude.{◌≡◌, Option, Some, None}
use Rattle.fast_mutex.specs.Items.{Ticket}
use Rattle.mq_model.specs.Record.{Record}
use Rattle.mq.specs.Calls.{IsFree}
use Rattle.c_handles.specs.declared.tried.Tried.{Tried}
use Rattle.c_handles.specs.declared.tried.Tried.TheVariants.{Waiting, Retry, Made}

-- A try of a call that needs a process without an open wait. Either the call was made, or nothing
-- has changed and `kept` holds.
abbrev pub TriesWith : {R : Type 0} → Type 0 → (Ticket Record → Ticket Record → R → Type 0) →
    Ticket Record → Ticket Record → Tried R → Type 0
TriesWith kept call old new (Made result) = call old new result
TriesWith kept call old new Retry = (new ≡ old) × IsFree old × kept
TriesWith kept call old new Waiting = (new ≡ old) × (IsFree old → ⊥) × kept

abbrev pub Tries : {R : Type 0} → (Ticket Record → Ticket Record → R → Type 0) → Ticket Record →
    Ticket Record → Tried R → Type 0
Tries call old new t = TriesWith (Unit {0}) call old new t

-- The try of an export on a handle that has the process `old`, or none, and afterwards the process
-- `new`. It returns what `says` gives for the try, or for none if the handle is empty.
abbrev pub GivesWith : {R A : Type 0} → Type 0 → (Ticket Record → Ticket Record → R → Type 0) →
    (Option (Tried R) → A) → Option (Ticket Record) → Option (Ticket Record) → A → Type 0
GivesWith kept call says None None code = (code ≡ says None) × kept
GivesWith {R} kept call says (Some old) (Some new) code = (t : Tried R) ×
    TriesWith kept call old new t × (code ≡ says (Some t))
GivesWith kept call says None (Some new) code = ⊥
GivesWith kept call says (Some old) None code = ⊥

abbrev pub Gives : {R A : Type 0} → (Ticket Record → Ticket Record → R → Type 0) →
    (Option (Tried R) → A) → Option (Ticket Record) → Option (Ticket Record) → A → Type 0
Gives call says old new code = GivesWith (Unit {0}) call says old new code
