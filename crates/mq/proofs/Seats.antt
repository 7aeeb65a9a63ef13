-- What holds of all seats of a list, and of what they show.
use Rattle.std.proofs.Common.{◌≡◌, ◌<◌, ◌≤◌, ◌+◌, ℕ, zero, suc, List, [], ◌∷◌, map, length, slice_get, Option, Some, refl, ap, arith}
use Rattle.std.specs.List.{All}
use Rattle.std.proofs.lemmas.List.Elements.{All-nil, All-cons, All-head, All-tail}
use Rattle.mq_model.specs.Record.{Past}
use Rattle.mq_state.specs.Buffers.{waiting_room}
use Rattle.mq.specs.Calls.{IsRoomOf}
use Rattle.fast_mutex.specs.Items.{LockId, Ticket, tickets_with}

-- what holds of all that is shown
pub all-unmap : {X Y : Type 0} (P : X → Type 0) (f : Y → X) (ys : List Y) → All P (map f ys) →
    All (λ y. P (f y)) ys
all-unmap P f [] all = All-nil (λ y. P (f y))
all-unmap P f (y ∷ ys) all = All-cons (λ y. P (f y)) y ys (All-head P (f y) (map f ys) all)
    (all-unmap P f ys (All-tail P (f y) (map f ys) all))

-- there are n of them
pub tickets-count : {S A : Type 0} (ticket : S → Ticket A) (lock : LockId) (left : List A) (k n : ℕ)
    (seats : List S) → map ticket seats ≡ tickets_with lock left k n → length seats ≡ n
tickets-count ticket lock left k zero [] e = refl
tickets-count ticket lock left k (suc n) (s ∷ seats) e =
    ap suc (tickets-count ticket lock left (suc k) n seats (cc))
tickets-count ticket lock left k n seats e = absurd (cc)

-- the tickets of the processes of one journal have their buffer lengths
pub rooms-fit : (rooms : List (Option ℕ)) (lock : LockId) (left : Past) →
    ((p : ℕ) → p < 33 → slice_get rooms p ≡ Some (waiting_room left p)) → (k n : ℕ) → k + n ≤ 33 →
    All (IsRoomOf rooms) (tickets_with lock left k n)
rooms-fit rooms lock left at k zero few = All-nil (IsRoomOf rooms)
rooms-fit rooms lock left at k (suc n) few = All-cons (IsRoomOf rooms) _ _
    (record { number = omega arith; room = at k (omega arith) }) (rooms-fit rooms lock left at
    (suc k) n (omega arith))

-- what holds of all holds of those after the first
pub after-first : {X : Type 0} (P : X → Type 0) (all xs : List X) (x : X) → all ≡ x ∷ xs →
    All P all → All P xs
after-first P all xs x is holds = All-tail P x xs (rw is at holds)
