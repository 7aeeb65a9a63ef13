-- The making of a system.
use Rattle.std.proofs.Common.{◌≡◌, ◌≤◌, ◌<◌, ◌+◌, ℕ, zero, suc, List, [], ◌∷◌, map, length, slice_get, Option, Some, None, refl, ap, true, arith}
use Rattle.std.proofs.lemmas.List.{length-map}
use Rattle.std.specs.List.{All, list_all}
use Rattle.std.proofs.lemmas.List.Elements.{All-nil, All-cons}
use Rattle.fast_mutex.specs.Items.{LockId, Ticket, tickets_with}
use Rattle.mq_model.specs.Record.{Past, Record}
use Rattle.mq_model.specs.Waits.{wait_deadline}
use Rattle.mq_model.specs.declared.entries.Deadline.{Deadline}
use Rattle.mq.specs.Calls.{bounds_in, stored_in}
use Rattle.c_handles.specs.declared.handle.Handle.{Handle}
use Rattle.c_handles.specs.Systems.{Fills, HandsOut, IsDeadlineOf, is_empty}

-- tickets are of their lock
pub tickets_lock : {A : Type 0} (lock : LockId) (left : List A) (k n : ℕ) →
    All (λ (t : Ticket A). t.lock ≡ lock) (tickets_with lock left k n)
tickets_lock {A} lock left k zero = All-nil (λ (t : Ticket A). t.lock ≡ lock)
tickets_lock {A} lock left k (suc n) = All-cons (λ (t : Ticket A). t.lock ≡ lock) _ _ refl
    (tickets_lock lock left (suc k) n)

-- there are n of them
pub tickets_length : {A : Type 0} (lock : LockId) (left : List A) (k n : ℕ) →
    length (tickets_with lock left k n) ≡ n
tickets_length lock left k zero = refl
tickets_length lock left k (suc n) = ap suc (tickets_length lock left (suc k) n)

-- the tickets of the processes of one journal have their deadlines
pub deadlines_fit : (deadlines : List (Option Deadline)) (lock : LockId) (left : Past) →
    ((p : ℕ) → p < 33 → slice_get deadlines p ≡ Some (wait_deadline left p)) → (k n : ℕ) →
    k + n ≤ 33
    → All (IsDeadlineOf deadlines) (tickets_with lock left k n)
deadlines_fit deadlines lock left at k zero few = All-nil (IsDeadlineOf deadlines)
deadlines_fit deadlines lock left at k (suc n) few =
    All-cons (IsDeadlineOf deadlines) _ _ (record {
      number = omega arith;
      deadline = at k (omega arith);
    }) (deadlines_fit deadlines lock left at
    (suc k) n (omega arith))

-- no deadline, repeated
abbrev pub nones : ℕ → List (Option Deadline)
nones zero = []
nones (suc n) = None ∷ nones n

none-at : (n p : ℕ) → p < n → slice_get (nones n) p ≡ Some None
none-at zero p lt = absurd (omega arith)
none-at (suc n) zero lt = refl
none-at (suc n) (suc p) lt = none-at n p (omega arith)

-- and those that have left nothing have none
pub new_deadlines : (lock : LockId) (n : ℕ) → n ≤ 32 →
    All (IsDeadlineOf (nones 33)) (tickets_with lock [] 1 n)
new_deadlines lock n few = deadlines_fit (nones 33) lock [] (λ p lt. none-at 33 p lt)
    1 n (omega arith)

pub map-some : {A B : Type 0} (f : A → B) (xs : List A) →
    map (λ x. Some (f x)) xs ≡ map (λ (y : B). Some y) (map f xs)
map-some f [] = refl
map-some f (x ∷ xs) = ap (λ (ys : List (Option _)). Some (f x) ∷ ys) (map-some f xs)

-- handles that have the processes of one journal have their system
pub made : (lock : LockId) (past : Past) (items : List (Ticket Record)) (old new : List Handle)
    (code : ℕ) → lock.count ≡ length old → items ≡ tickets_with lock past 1 (length old) →
    list_all is_empty old ≡ true → HandsOut items old new code
    → Fills (bounds_in lock.fixed) (stored_in lock.fixed) past old new code
made lock past items old new code count tickets empty out =
    grind (arith, length-map, tickets_length)
