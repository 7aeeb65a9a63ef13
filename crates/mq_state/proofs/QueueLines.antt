-- The table of queues, line by line.
use Rattle.std.proofs.Common.{◌≡◌, ℕ, zero, suc, ◌<◌, ◌==◌, Bool, true, false, List, [], ◌∷◌, ◌++◌, length, map, Option, Some, None, is_some, if◌then◌else◌, set, get_or, refl, sym, ◌∙◌, ap, arith, eqb-true, not, ◌⊎◌}
use Rattle.std.specs.List.{filter, position}
use Rattle.mq_model.specs.Messages.{is_in}
use Rattle.std.specs.Option.{option_map}
use Rattle.std.proofs.lemmas.List.Quantifiers.{position-Some}
use Rattle.mq_model.proofs.Places.{split}
use Rattle.mq_state.specs.QueueShown.{QueueShown}
use Rattle.mq_state.specs.Queues.{queue_in, changed, reregistered, without_queue}
use Rattle.mq_model.specs.Notices.{registration_after}
use Rattle.mq_model.specs.declared.entries.Entry.{Entry}
use Rattle.mq_model.specs.declared.entries.Registration.{Registration}
use Rattle.std.proofs.lemmas.List.Folds.{find_at, find-append}
use Rattle.std.proofs.lemmas.Option.{slice_get-get_or, slice_get_past}
use Rattle.std.proofs.lemmas.Bool.Decides.{nat_tests}
use Rattle.mq_model.proofs.Best.{find-test}

-- if queue q has index i, and no row before it is of q
set-first : (f : QueueShown → QueueShown) (queues : List QueueShown) (q i : ℕ) (d : QueueShown) →
    i < length queues → ((get_or queues i d).place == q) ≡ true →
    ((k : ℕ) → k < i → ((get_or queues k d).place == q) ≡ false) →
    set queues i (f (get_or queues i d)) ≡ changed f queues q
set-first f [] q i d lt here before = absurd (omega arith)
set-first f (x ∷ queues) q zero d lt here before = rw here refl
set-first f (x ∷ queues) q (suc i) d lt here before = rw (before 0 (omega arith))
    (ap (λ rest. x ∷ rest) (set-first f queues q i d (omega arith) here
    (λ k at. before (suc k) (omega arith))))

pub queue_in-Some : (queues : List QueueShown) (q i : ℕ) (d : QueueShown) →
    position (λ x. x.place == q) queues ≡ Some i → queue_in queues q ≡ Some (get_or queues i d)
unfolding queue_in
queue_in-Some queues q i d e = grind (arith, nat_tests, find_at, slice_get-get_or)

pub queue_in-None : (queues : List QueueShown) (q : ℕ) → position (λ x. x.place == q) queues ≡
    None → queue_in queues q ≡ None
unfolding queue_in
queue_in-None queues q e = grind (arith, nat_tests, find_at, slice_get_past)

pub changed-at : (f : QueueShown → QueueShown) (queues : List QueueShown) (q i : ℕ)
    (x y : QueueShown) → position (λ x. x.place == q) queues ≡ Some i → x ≡ get_or queues i x →
    y ≡ f x → set queues i y ≡ changed f queues q
changed-at f queues q i x y e is to = grind (arith, position-Some, set-first)

pub changed-None : (f : QueueShown → QueueShown) (queues : List QueueShown) (q : ℕ) →
    queue_in queues q ≡ None → changed f queues q ≡ queues
unfolding queue_in
changed-None f [] q e = refl
changed-None f (x ∷ queues) q e = grind (arith, changed-None f queues q)

pub changed-same : (f : QueueShown → QueueShown) (queues : List QueueShown) (q : ℕ) →
    ((x : QueueShown) → f x ≡ x) → queues ≡ changed f queues q
changed-same f [] q same = refl
changed-same f (x ∷ queues) q same = grind (arith, changed-same f queues q same)

pub queue_in-changed : (f : QueueShown → QueueShown) (queues : List QueueShown) (q k : ℕ) →
    ((x : QueueShown) → (f x).place ≡ x.place) →
    queue_in (changed f queues q) k ≡
    (if q == k then option_map f (queue_in queues k) else queue_in queues k)
unfolding queue_in
queue_in-changed f [] q k stays = grind arith
queue_in-changed f (x ∷ queues) q k stays =
    grind (arith, split, queue_in-changed f queues q k stays)

pub places-changed : (f : QueueShown → QueueShown) (queues : List QueueShown) (q : ℕ) →
    ((x : QueueShown) → (f x).place ≡ x.place) → map (λ x. x.place) (changed f queues q) ≡
    map (λ x. x.place) queues
places-changed f [] q stays = refl
places-changed f (x ∷ queues) q stays = grind (arith, places-changed f queues q stays)

-- what the table says of one line after all were mapped
pub queue_in-map : (f : QueueShown → QueueShown) (queues : List QueueShown) (q : ℕ) →
    ((x : QueueShown) → (f x).place ≡ x.place) →
    queue_in (map f queues) q ≡ option_map f (queue_in queues q)
unfolding queue_in
queue_in-map f [] q stays = refl
queue_in-map f (x ∷ queues) q stays = grind (arith, split, queue_in-map f queues q stays)

pub places-map : (f : QueueShown → QueueShown) (queues : List QueueShown) →
    ((x : QueueShown) → (f x).place ≡ x.place) →
    map (λ x. x.place) (map f queues) ≡ map (λ x. x.place) queues
places-map f [] stays = refl
places-map f (x ∷ queues) stays =
    rw (stays x) (ap (λ rest. x.place ∷ rest) (places-map f queues stays))

-- an entry that touches no registration leaves all lines
pub map-untouched : (q here : ℕ) (e : Entry) →
    ((on : Bool) (here : ℕ) (before : Option Registration) → registration_after on here e before ≡
    before) → (queues : List QueueShown) → queues ≡ map (reregistered q here e) queues
map-untouched q here e same [] = refl
map-untouched q here e same (x ∷ queues) = grind (arith, map-untouched q here e same queues)

pub queue_in-place : (queues : List QueueShown) (q : ℕ) (x : QueueShown) →
    queue_in queues q ≡ Some x → x.place ≡ q
unfolding queue_in
queue_in-place queues q x e = eqb-true _ _ (find-test (λ x. x.place == q) queues x e)

pub mapped : {X Y : Type 0} (f : X → Y) (o : Option X) (y : Y) → option_map f o ≡ Some y →
    (x : X) × (o ≡ Some x) × (f x ≡ y)
mapped f o y e = grind arith

-- the row of queue q changed, and the others unchanged
abbrev pub changed_line : (QueueShown → QueueShown) → ℕ → QueueShown → QueueShown
changed_line f q x = if q == x.place then f x else x

-- which line one was, before that of a queue was changed
pub changed-from : (f : QueueShown → QueueShown) (queues : List QueueShown) (q k : ℕ)
    (y : QueueShown) → ((x : QueueShown) → (f x).place ≡ x.place) →
    queue_in (changed f queues q) k ≡ Some y → (x : QueueShown) × (queue_in queues k ≡ Some x) ×
    (changed_line f q x ≡ y)
changed-from f queues q k y stays found = grind (
  arith,
  mapped,
  queue_in-changed,
  queue_in-place,
  split,
)

-- which line one was, before all were mapped
pub map-from : (f : QueueShown → QueueShown) (queues : List QueueShown) (q : ℕ) (y : QueueShown) →
    ((x : QueueShown) → (f x).place ≡ x.place) → queue_in (map f queues) q ≡ Some y →
    (x : QueueShown) × (queue_in queues q ≡ Some x) × (f x ≡ y)
map-from f queues q y stays found = mapped f (queue_in queues q) y
    (sym (queue_in-map f queues q stays) ∙ found)

pub is_in-places : (queues : List QueueShown) (q : ℕ) → is_in (map (λ x. x.place) queues) q ≡
    is_some (queue_in queues q)
unfolding queue_in
is_in-places [] q = refl
is_in-places (y ∷ queues) q = grind (arith, split, is_in-places queues q)

pub inside-queue_in : (queues : List QueueShown) (q : ℕ) → is_in (map (λ x. x.place) queues) q ≡
    true → (x : QueueShown) × (queue_in queues q ≡ Some x)
inside-queue_in queues q h = grind (arith, is_in-places)

pub queue_in-without : (queues : List QueueShown) (q k : ℕ) → queue_in (without_queue queues q) k ≡
    (if q == k then None else queue_in queues k)
unfolding queue_in without_queue
queue_in-without [] q k = grind arith
queue_in-without (y ∷ queues) q k = grind (arith, nat_tests, split, queue_in-without queues q k)

pub places-without : (queues : List QueueShown) (q : ℕ) →
    map (λ x. x.place) (without_queue queues q) ≡ filter (λ k. not (k == q))
    (map (λ x. x.place) queues)
unfolding without_queue
places-without [] q = refl
places-without (y ∷ queues) q = grind (arith, split, places-without queues q)

-- one more line at the end
pub queue_in-push : (queues : List QueueShown) (y : QueueShown) (k : ℕ) (x : QueueShown) →
    queue_in (queues ++ y ∷ []) k ≡ Some x → (queue_in queues k ≡ Some x) ⊎ (x ≡ y)
unfolding queue_in
queue_in-push queues y k x e = grind (arith, find-append)
