-- The orders of the queues: none is lost or made after an entry.
use Rattle.std.proofs.Common.{◌≡◌, ℕ, zero, suc, ◌<◌, ◌≤◌, ◌==◌, true, List, [], ◌∷◌, ◌++◌, length, map, get_or, Option, Some, None, refl, arith, length-append}
use Rattle.std.specs.List.{All, remove}
use Rattle.std.proofs.lemmas.List.{length-map}
use Rattle.std.proofs.lemmas.List.Elements.{All-nil, All-cons, All-head, All-tail, All-push, All-map}
use Rattle.mq_model.specs.declared.entries.Attr.{Attr}
use Rattle.mq_model.proofs.Places.{split}
use Rattle.mq_model.specs.declared.bounds.Bounds.{Bounds}
use Rattle.mq_model.specs.declared.entries.Entry.{Entry}
use Rattle.mq_slots.specs.Held.{Held}
use Rattle.mq_state.specs.QueueShown.{QueueShown}
use Rattle.mq_model.specs.declared.callers.Caller.{Caller}
use Rattle.mq_state.specs.WaitCounts.{waits_noted}
use Rattle.mq_state.specs.Queues.{queue_in, changed, reregistered, without_queue, fresh}
use Rattle.mq_state.specs.Pool.{Pool, PoolWith, PoolWithin, IsSpare, emptied}
use Rattle.std.proofs.lemmas.List.Edits.{length-remove}
use Rattle.std.proofs.lemmas.List.Sorted.{All-permutation, IsPermutation-remove}
use Rattle.std.proofs.lemmas.Grind.{common_steps}

abbrev Wide : QueueShown → Type 0
Wide x = 4096 ≤ x.cap

pub pool-map : {m a b : ℕ} {spares : List Held} (q here : ℕ) (e : Entry)
    (queues : List QueueShown) → Pool m queues spares a b →
    Pool m (map (reregistered q here e) queues) spares a b
pool-map q here e queues pool =
    grind (arith, length-map, All-map Wide (reregistered q here e) queues)

wide-changed : (f : QueueShown → QueueShown) → ((x : QueueShown) → (f x).cap ≡ x.cap) →
    (queues : List QueueShown) (q : ℕ) → All Wide queues → All Wide (changed f queues q)
wide-changed f same [] q all = All-nil Wide
wide-changed f same (x ∷ queues) q all = let tail = All-tail Wide x queues all in
    split (x.place == q)
    (λ t. rw t (All-cons Wide (f x) queues (rw (same x) (All-head Wide x queues all)) tail))
    (λ n. rw n (All-cons Wide x (changed f queues q) (All-head Wide x queues all)
    (wide-changed f same queues q tail)))

pub length-changed : (f : QueueShown → QueueShown) (queues : List QueueShown) (q : ℕ) →
    length (changed f queues q) ≡ length queues
length-changed f [] q = refl
length-changed f (x ∷ queues) q = grind (arith, length-changed f queues q)

pub pool-kept : {m a b : ℕ} {spares : List Held} (f : QueueShown → QueueShown) →
    ((x : QueueShown) → (f x).cap ≡ x.cap) → (queues : List QueueShown) (q : ℕ) →
    Pool m queues spares a b → Pool m (changed f queues q) spares a b
pool-kept f same queues q pool = grind (arith, length-changed, wide-changed)

-- after the update of the number of those that wait
pub pooled-waiting : (bounds : Option Bounds) (moved : Option ℕ) (callers : List Caller)
    (queues after : List QueueShown) (spares : List Held) (room after_room spare_room : ℕ) →
    after ≡ waits_noted moved callers queues → after_room ≡ room →
    PoolWithin bounds None queues spares room spare_room →
    PoolWithin bounds None after spares after_room spare_room
pooled-waiting bounds moved callers queues after spares room after_room spare_room is same pool =
    grind (arith, length-changed, wide-changed)

-- one queue is removed ----------------------------------------------------------------------------

-- what is left without queue q is the same after the removal of one of its lines
pub without-removed : (queues : List QueueShown) (q i : ℕ) (d : QueueShown) → i < length queues →
    ((get_or queues i d).place == q) ≡ true →
    without_queue (remove queues i) q ≡ without_queue queues q
unfolding without_queue
without-removed [] q i d lt at = absurd (omega arith)
without-removed (x ∷ queues) q zero d lt at = rw at refl
without-removed (x ∷ queues) q (suc i) d lt at = grind (arith, split, without-removed queues q i d)

-- if no row is of queue q, nothing is removed
pub without-none : (queues : List QueueShown) (q : ℕ) → queue_in queues q ≡ None →
    without_queue queues q ≡ queues
unfolding without_queue queue_in
without-none [] q none = refl
without-none (x ∷ queues) q none = grind (arith, without-none queues q)

-- its order joins the spare ones
pub pool-removed : {m a b : ℕ} (queues : List QueueShown) (i : ℕ) (d : QueueShown)
    (spares after : List Held) (o : Held) → i < length queues → o.cap ≡ (get_or queues i d).cap →
    Pool m queues spares a b → (length spares < b → after ≡ spares ++ emptied o ∷ []) →
    Pool m (remove queues i) after a b
pool-removed queues i d spares after o lt cap pool kept =
    let x = get_or queues i d in
    let all = All-permutation Wide queues (x ∷ remove queues i) (IsPermutation-remove queues i x lt
    (grind (arith, common_steps))) pool.wide in
    let at = All-head Wide x (remove queues i) all in
    let wide = All-tail Wide x (remove queues i) all in
    let spare = All-push IsSpare spares (emptied o) pool.spare (refl, grind arith) in
    let is = kept (grind arith) in
    grind (arith, length-append, length-remove)

-- a queue is created ------------------------------------------------------------------------------

pub pool-fresh : (queues after : List QueueShown) (spares : List Held) (here : ℕ) (given : Attr)
    (o : Held) (a a' b : ℕ) → after ≡ queues ++ fresh here o.cap given ∷ [] → a' ≡ a →
    PoolWith (Some o) queues spares a b → PoolWith None after spares a' b
pool-fresh queues after spares here given o a a' b is same with_one =
    grind (arith, common_steps, All-push, length-append)

-- with bounds and without
pub pool-within : (o : Option Bounds) (before after : Option Held)
    (queues queues' : List QueueShown) (spares spares' : List Held) (a b a' b' : ℕ) →
    (PoolWith before queues spares a b → PoolWith after queues' spares' a' b') →
    PoolWithin o before queues spares a b → PoolWithin o after queues' spares' a' b'
pool-within o before after queues queues' spares spares' a b a' b' step pool = grind arith
