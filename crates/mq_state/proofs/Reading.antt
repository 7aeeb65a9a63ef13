-- What is read off the tables is what the definitions say.
use Rattle.std.proofs.Common.{◌≡◌, ℕ, Bool, true, false, ◌&&◌, List, [], ◌∷◌, length, map, Some, None, refl, arith}
use Rattle.std.specs.List.{find}
use Rattle.std.specs.Str.{bytes_eq}
use Rattle.std.specs.Option.{option_map}
use Rattle.std.proofs.lemmas.Slice.Eq.{bytes_eq-Decides}
use Rattle.std.proofs.lemmas.Grind.{common_steps}
use Rattle.mq_model.specs.Record.{Past}
use Rattle.mq_model.specs.Names.{attributes, bound_queue, name_of}
use Rattle.mq_model.specs.Descriptors.{lowest_free, alive}
use Rattle.mq_model.specs.Messages.{is_in, present, best}
use Rattle.mq_model.specs.Notices.{registered}
use Rattle.mq_model.specs.Owners.{free_number_in, OwnersMirror}
use Rattle.mq_model.specs.declared.owners.Owner.{Owner}
use Rattle.mq_model.proofs.Best.{find-test}
use Rattle.mq_model.proofs.Alive.{bound-name, named-bound, bound-named}
use Rattle.mq_state.specs.Order.{best_slot}
use Rattle.mq_state.specs.QueueShown.{QueueShown}
use Rattle.mq_state.specs.Queues.{queue_in, slots_in, registration_in, attributes_in, bound_in, slot_of, slots_of, QueuesMirror, HaveRisingPlaces}
use Rattle.mq_state.proofs.QueueLines.{queue_in-place, is_in-places}
use Rattle.mq_state.proofs.QueuesKeep.{alive-line, length-slots_of}
use Rattle.mq_state.proofs.QueuesNoted.{bound-alive}
use Rattle.mq_state.proofs.Rising.{rising-places}
use Rattle.std.proofs.lemmas.List.Folds.{list_all-map}

pub free-read : (past : Past) (owners : List Owner) → OwnersMirror past owners → (p : ℕ) →
    free_number_in owners p ≡ lowest_free past p
free-read past owners m p = grind (arith, m.held p)

pub slots-read : (past : Past) (queues : List QueueShown) → QueuesMirror past queues → (q : ℕ) →
    is_in (alive past) q ≡ true → slots_in queues q ≡ slots_of past (present past q)
unfolding slots_in
slots-read past queues m q h = let x = alive-line past queues m q h in
    grind (arith, x.1, m.lines q x.0 x.1, queue_in-place queues q x.0 x.1)

pub count-read : (past : Past) (queues : List QueueShown) → QueuesMirror past queues → (q : ℕ) →
    is_in (alive past) q ≡ true → length (slots_in queues q) ≡ length (present past q)
count-read past queues m q h = grind (arith, slots-read past queues m q h, length-slots_of)

pub registration-read : (past : Past) (queues : List QueueShown) → QueuesMirror past queues →
    (q : ℕ) → is_in (alive past) q ≡ true → registration_in queues q ≡ registered past q
unfolding registration_in
registration-read past queues m q h = let x = alive-line past queues m q h in
    grind (arith, x.1, m.lines q x.0 x.1, queue_in-place queues q x.0 x.1)

pub attributes-read : (past : Past) (queues : List QueueShown) → QueuesMirror past queues →
    (q : ℕ) → is_in (alive past) q ≡ true → attributes_in queues q ≡ attributes past q
unfolding attributes_in
attributes-read past queues m q h = let x = alive-line past queues m q h in
    grind (arith, x.1, m.lines q x.0 x.1, queue_in-place queues q x.0 x.1)

find-slots : (past : Past) (s : ℕ × ℕ → Bool) (t : ℕ → Bool) →
    ((m : ℕ) → s (slot_of past m) ≡ t m) → (xs : List ℕ) →
    option_map (λ x. x.1) (find s (slots_of past xs)) ≡ find t xs
find-slots past s t same [] = refl
find-slots past s t same (x ∷ xs) = grind (arith, find-slots past s t same xs)

pub best-slots : (past : Past) (q : ℕ) →
    option_map (λ x. x.1) (best_slot (slots_of past (present past q))) ≡ best past q
best-slots past q = find-slots past _ _ (λ k. list_all-map _ (slot_of past) (present past q))
    (present past q)

pub best-read : (past : Past) (queues : List QueueShown) → QueuesMirror past queues → (q : ℕ) →
    is_in (alive past) q ≡ true → option_map (λ x. x.1) (best_slot (slots_in queues q)) ≡
    best past q
best-read past queues m q h = grind (arith, slots-read past queues m q h, best-slots)

-- if no row passes, the row of a queue does not
find-none : (t : QueueShown → Bool) (queues : List QueueShown) (q : ℕ) (x : QueueShown) →
    find t queues ≡ None → queue_in queues q ≡ Some x → t x ≡ false
unfolding queue_in
find-none t [] q x none e = absurd (cc)
find-none t (y ∷ queues) q x none e = grind (arith, find-none t queues q x)

queue_in-inside : (queues : List QueueShown) (q : ℕ) (x : QueueShown) → queue_in queues q ≡ Some x →
    is_in (map (λ x. x.place) queues) q ≡ true
queue_in-inside queues q x e = grind (arith, is_in-places)

-- the first row that passes is the row with its place
found-line : (t : QueueShown → Bool) (queues : List QueueShown) → HaveRisingPlaces queues →
    (x : QueueShown) → find t queues ≡ Some x → queue_in queues x.place ≡ Some x
unfolding queue_in
found-line t [] rises x e = absurd (cc)
found-line t (y ∷ queues) rises x e = grind (arith, queue_in-inside, found-line t queues)

-- the queue that a name is bound to
pub bound-read : (past : Past) (queues : List QueueShown) → QueuesMirror past queues →
    (name : List ℕ) → bound_in past queues name ≡ bound_queue past name
unfolding bound_in
bound-read past queues m name = grind (arith, some-found, none-found)
  where
    some-found : (x : QueueShown) →
        find (λ x. x.named && bytes_eq (name_of past x.place) name) queues ≡ Some x →
        bound_queue past name ≡ Some x.place
    some-found x e = let line = m.lines x.place x (found-line _ queues (rising-places past queues m)
        x e) in grind (arith, line, find-test _ queues x e, bytes_eq-Decides, named-bound)

    none-found : find (λ x. x.named && bytes_eq (name_of past x.place) name) queues ≡ None →
        (q : ℕ) → bound_queue past name ≡ Some q → ⊥
    none-found e q is = let x = alive-line past queues m q (bound-alive past name q is) in
        grind (
          arith,
          find-none _ queues q x.0 e x.1,
          m.lines q x.0 x.1,
          queue_in-place,
          bound-named past name q is,
          bytes_eq-Decides,
          bound-name past name q is,
        )

pub many-read : (past : Past) (queues : List QueueShown) → QueuesMirror past queues →
    length queues ≡ length (alive past)
many-read past queues m = grind (arith, common_steps)
