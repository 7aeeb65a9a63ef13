-- Which operations of a process are on the queue of a name: those through a descriptor that the
-- latest open which returned it opened under this name.
use Rattle.std.specs.Prelude.{ℕ, ◌≡◌, ◌≤◌, length, Bool, false, not, nat_lt, ◌&&◌, ◌||◌, nat_le, List, [], ◌∷◌, Option, None, Some, replicate, slice_set, slice_index_or, if◌then◌else◌, Vec}
use Rattle.std.specs.List.{list_any}
use Rattle.std.specs.Str.{bytes_eq}
use Rattle.std.specs.declared.alloc.Global.{Global}
use Rattle.mq_model.specs.Limits.{most_processes}
use Rattle.mq_model.specs.Descriptors.{descriptor_of}
use Rattle.mq_model.specs.Names.{is_open, is_unlink}
use Rattle.histories.specs.Histories.{Histories, is_pending}
use Rattle.histories.specs.declared.operation.Operation.{Operation}
use Rattle.histories.specs.declared.operation.Outcome.{Outcome}
use Rattle.histories.specs.declared.operation.Outcome.TheVariants.{Opened}
use Rattle.histories.specs.Excess.{returned_by}
use Rattle.histories.specs.Outcomes.{has_failed}

-- for each of the 16 descriptors of a process, whether it is of the queue
abbrev pub Marks : Type 0
Marks = List Bool

abbrev pub no_marks : Marks
no_marks = replicate 16 false

-- an open marks the descriptor that it returned if it gave this name
abbrev pub marks_opened : List ℕ → Marks → List ℕ → Outcome → Marks
marks_opened name marks given (Opened d) =
    if nat_lt d 16 then slice_set marks d (bytes_eq given name) else marks
marks_opened name marks given _ = marks

abbrev pub marks_after : List ℕ → Marks → Operation → Marks
marks_after name marks o = marks_opened name marks o.given.items o.outcome

abbrev pub marks_of : List ℕ → Marks → List Operation → Marks
marks_of name marks [] = marks
marks_of name marks (o ∷ operations) = marks_of name (marks_after name marks o) operations

abbrev pub is_marked : Marks → Option ℕ → Bool
is_marked marks None = false
is_marked marks (Some d) = nat_lt d 16 && slice_index_or marks d false

abbrev pub calls_from : List ℕ → Marks → List Operation → List Operation
calls_from name marks [] = []
calls_from name marks (o ∷ operations) =
    if is_marked marks (descriptor_of o.call)
    then o ∷ calls_from name (marks_after name marks o) operations
    else calls_from name (marks_after name marks o) operations

-- the operations of a process on the queue
abbrev pub calls_on : List ℕ → List Operation → List Operation
calls_on name operations = calls_from name no_marks operations

-- one of the operations passes the test
abbrev pub has_any : (Operation → Bool) → Histories → Bool
has_any test histories = list_any (λ (v : Vec Operation Global). list_any test v.items) histories

-- one of those on the queue does
abbrev pub has_any_on : List ℕ → (Operation → Bool) → Histories → Bool
has_any_on name test histories =
    list_any (λ (v : Vec Operation Global). list_any test (calls_on name v.items)) histories

-- one of those on the queue that had returned by this time does
abbrev pub has_returned_on : ℕ → List ℕ → (Operation → Bool) → Histories → Bool
has_returned_on time name test histories =
    list_any (λ (v : Vec Operation Global). list_any test
    (calls_on name (returned_by time v.items))) histories

-- an unlink of the name that did not fail
abbrev pub has_unlinked : List ℕ → Operation → Bool
has_unlinked name o = is_unlink o.call && not (has_failed o.outcome) && bytes_eq o.given.items name

-- A call that began by this time, and is such an unlink or an open that had not returned. Without
-- one, the name has one queue until then, and each open shows its descriptor.
abbrev pub unbinds : ℕ → List ℕ → Operation → Bool
unbinds time name o =
    nat_le o.begin time && (has_unlinked name o || is_open o.call && is_pending o.outcome)

-- Nothing unbinds the name by this time, and no two of the processes are threads of one, which
-- would share their descriptors.
pub record KeepsName (time : ℕ) (name : List ℕ) (histories : Histories) : Type 0 where
  pub few : length histories ≤ most_processes
  pub stays : has_any (unbinds time name) histories ≡ false
