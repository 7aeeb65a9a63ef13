-- Making a system for C.
use Rattle.std.specs.Prelude.{ℕ, ◌≡◌, ◌<◌, ◌⊎◌, true, false, Bool, not, is_some, List, [], length, map, slice_get, Option, Some}
use Rattle.std.specs.List.{list_all}
use Rattle.fast_mutex.specs.Items.{LockId, Ticket, tickets_with}
use Rattle.mq_model.specs.Record.{Past, Record}
use Rattle.mq_model.specs.Waits.{wait_deadline}
use Rattle.mq_model.specs.declared.bounds.Bounds.{Bounds}
use Rattle.mq_model.specs.declared.entries.Deadline.{Deadline}
use Rattle.mq.specs.Calls.{bounds_in, stored_in}
use Rattle.c_handles.specs.declared.handle.Handle.{Handle}
use Rattle.c_handles.specs.Handles.{process_in}

abbrev pub is_empty : Handle → Bool
is_empty h = not (is_some h.seal.member)

-- `deadlines` has the deadline of the open wait of the process with this ticket, at the index of
-- its number.
pub record IsDeadlineOf (deadlines : List (Option Deadline)) (t : Ticket Record) : Type 0 where
  pub number : t.number < 33
  pub deadline : slice_get deadlines t.number ≡ Some (wait_deadline t.left t.number)

-- The handles have these processes, in order, and the code is 0; or memory was refused, 11, and the
-- handles are unchanged.
abbrev pub HandsOut : List (Ticket Record) → List Handle → List Handle → ℕ → Type 0
HandsOut processes old new code =
    ((code ≡ 0) × (map process_in new ≡ map (λ (t : Ticket Record). Some t) processes)) ⊎
    ((code ≡ 11) × (new ≡ old))

-- A system with these bounds, whose journal is stored or not, and whose processes are those of
-- these handles, in order. Each of them has left this journal.
pub record Made (bounds : Option Bounds) (stored : Bool) (past : Past)
    (handles : List Handle) : Type 0 where
  pub lock : LockId
  pub count : lock.count ≡ length handles
  pub bounds_are : bounds_in lock.fixed ≡ bounds
  pub stored_is : stored_in lock.fixed ≡ stored
  pub processes : map process_in handles ≡ map (λ (t : Ticket Record). Some t)
      (tickets_with lock past 1 (length handles))

-- The code is 0 and the system was made, for handles that were all empty; or memory was refused,
-- 11, and the handles are unchanged.
abbrev pub Fills : Option Bounds → Bool → Past → List Handle → List Handle → ℕ → Type 0
Fills bounds stored past old new code =
    ((code ≡ 0) × Made bounds stored past new × (length new ≡ length old) ×
    (list_all is_empty old ≡ true)) ⊎ ((code ≡ 11) × (new ≡ old))

-- The handles cannot take a system: 24 if one is not empty, or 5 if there are not 1 to 32.
abbrev pub HasNoPlace : List Handle → ℕ → Type 0
HasNoPlace handles code = ((code ≡ 24) × (list_all is_empty handles ≡ false)) ⊎
    ((code ≡ 5) × ((length handles ≡ 0) ⊎ (32 < length handles)))

-- making a new system
abbrev pub Makes : Option Bounds → Bool → List Handle → List Handle → ℕ → Type 0
Makes bounds stored old new code = Fills bounds stored [] old new code ⊎
    (HasNoPlace old code × (new ≡ old))
