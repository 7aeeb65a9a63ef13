-- The table of inboxes, line by line.
use Rattle.std.proofs.Common.{◌≡◌, ℕ, suc, ◌+◌, ◌<◌, ◌≤◌, ◌==◌, List, [], ◌∷◌, ◌++◌, length, Some, if◌then◌else◌, set, get_or, refl, ◌∙◌, arith, eqb-true, eq-eqb, slice_get}
use Rattle.std.proofs.lemmas.Bool.Decides.{nat_tests}
use Rattle.std.proofs.lemmas.Option.{slice_get-get_or, slice_get_past}
use Rattle.mq_model.specs.Threads.{owner_of, shares}
use Rattle.mq_model.proofs.Records.{slice_get-push}
use Rattle.mq_state.specs.InboxShown.{InboxShown}
use Rattle.mq_state.specs.Inboxes.{notices_in, room_in}

slice_get-set : (xs : List InboxShown) (p k : ℕ) (y : InboxShown) → p < length xs →
    slice_get (set xs p y) k ≡ (if p == k then Some y else slice_get xs k)
slice_get-set [] p k y lt = absurd (omega arith)
slice_get-set (x ∷ xs) (suc p) (suc k) y lt = slice_get-set xs p k y (omega arith) ∙
    grind (arith, nat_tests)
slice_get-set (x ∷ xs) p k y lt = grind arith

-- the row of caller p's process with other notices
pub values-set : (f : List ℕ → List ℕ) (xs : List InboxShown) (p : ℕ) (y d : InboxShown) →
    owner_of p < length xs → y.values ≡ f (get_or xs (owner_of p) d).values → (k : ℕ) →
    notices_in (set xs (owner_of p) y) k ≡
    (if shares p k then f (notices_in xs k) else notices_in xs k)
unfolding notices_in
values-set f xs p y d lt is k = grind (arith, eqb-true, slice_get-set, slice_get-get_or)

-- room --------------------------------------------------------------------------------------------

pub line-room : (xs : List InboxShown) (p : ℕ) (d : InboxShown) → owner_of p < length xs →
    (get_or xs (owner_of p) d).room ≡ room_in xs p
unfolding room_in
line-room xs p d lt = rw (slice_get-get_or xs (owner_of p) d lt) refl

-- a process with room has an inbox
pub room-inside : (xs : List InboxShown) (p : ℕ) → 0 < room_in xs p → owner_of p < length xs
unfolding room_in
room-inside xs p lt = grind (arith, slice_get_past)

-- the row of caller p's process with at most this much less room
pub room-set : (xs : List InboxShown) (p : ℕ) (y d : InboxShown) (less : ℕ) →
    owner_of p < length xs → (get_or xs (owner_of p) d).room ≤ y.room + less → (k : ℕ) →
    room_in xs k ≤ room_in (set xs (owner_of p) y) k + (if shares p k then less else 0)
unfolding room_in
room-set xs p y d less lt le k = grind (arith, eqb-true, slice_get-set, slice_get-get_or)

pub room-kept : (xs : List InboxShown) (p : ℕ) (y d : InboxShown) → owner_of p < length xs →
    (get_or xs (owner_of p) d).room ≤ y.room → (k : ℕ) →
    room_in xs k ≤ room_in (set xs (owner_of p) y) k
room-kept xs p y d lt le k = grind (arith, room-set xs p y d 0 lt)

pub room-made : (xs : List InboxShown) (p : ℕ) (y : InboxShown) (more : ℕ) →
    owner_of p < length xs → more ≤ y.room → more ≤ room_in (set xs (owner_of p) y) p
unfolding room_in
room-made xs p y more lt le = grind (arith, eq-eqb, slice_get-set)

pub none-push : (xs : List InboxShown) (y : InboxShown) → ((k : ℕ) → notices_in xs k ≡ []) →
    y.values ≡ [] → (k : ℕ) → notices_in (xs ++ y ∷ []) k ≡ []
unfolding notices_in
none-push xs y none is k = let old = none k in rw (slice_get-push xs y (owner_of k)) (grind arith)

-- one more line with that room, after those that have it
pub room-push : (xs : List InboxShown) (y : InboxShown) (room : ℕ) →
    ((k : ℕ) → owner_of k < length xs → room ≤ room_in xs k) → room ≤ y.room → (k : ℕ) →
    owner_of k < length xs + 1 → room ≤ room_in (xs ++ y ∷ []) k
unfolding room_in
room-push xs y room has le k lt = let old = has k in rw (slice_get-push xs y (owner_of k))
    (grind (arith, nat_tests))
