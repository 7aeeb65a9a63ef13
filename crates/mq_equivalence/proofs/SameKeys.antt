-- Journals with one key are equivalent.
use Rattle.std.proofs.lemmas.Bool.Decides.{nat_tests}
use Rattle.std.proofs.Common.{◌≡◌, ℕ, suc, ◌≤◌, ◌<◌, ◌==◌, Bool, true, false, ◌||◌, List, [], ◌∷◌, ◌++◌, map, Option, Some, None, is_some, if◌then◌else◌, refl, sym, ◌∙◌, ap, subst, arith, append_assoc, eqb-true, eq-eqb, ne_eqb, leb-true, leb-false, nat_le}
use Rattle.std.specs.Option.{option_map}
use Rattle.std.proofs.lemmas.Bool.{eqb-false}
use Rattle.mq_model.specs.Record.{Past}
use Rattle.mq_model.specs.Threads.{owner_of}
use Rattle.mq_model.specs.Names.{attributes, bound_queue}
use Rattle.mq_model.specs.Descriptors.{alive, held, numbers_from}
use Rattle.mq_model.specs.Messages.{is_in}
use Rattle.mq_model.specs.Notices.{notices}
use Rattle.mq_model.specs.Waits.{open_wait, wait_deadline}
use Rattle.mq_model.specs.Legality.{Legal}
use Rattle.mq_model.specs.declared.entries.Description.{Description}
use Rattle.mq_model.proofs.Alive.{bound-name, bound-named, named-bound}
use Rattle.mq_model.proofs.HeldQueues.{held-alive}
use Rattle.mq_model.proofs.Mates.{held-mates, owner_owner}
use Rattle.mq_model.proofs.NoticeSteps.{notices-mates}
use Rattle.mq_model.proofs.Places.{split}
use Rattle.mq_state.specs.Buffers.{room_of, waiting_call, waiting_room}
use Rattle.mq_equivalence.specs.Views.{answer, at, bound_name, contents, joined, lined, receivers, registered_as, seen, seen_senders, senders, told}
use Rattle.mq_equivalence.specs.Key.{bytes_code, deadline_code, description_code, index_of, key_if, key_within, limits_code, listed, message_code, name_rank, number, number_bound, optional, process_bound, process_code, queue_code, queues_by_name, registered_code, sender_code}
use Rattle.mq_equivalence.proofs.Appends.{listed-map}
use Rattle.mq_equivalence.proofs.Bounds.{IsIdle, HasNothing, held-above, idle-above, nothing-above}
use Rattle.mq_equivalence.proofs.Codes.{Pairs, SameHeld, listed-numbered, decodable-bytes_code, decodable-deadline, told-held, decodable-limits, decodable-listed, decodable-message, decodable-number, decodable-optional, told-pairs, decodable-registered, decodable-sender}
use Rattle.mq_equivalence.proofs.Falling.{Falls}
use Rattle.mq_equivalence.specs.Equivalence.{Agree}
use Rattle.mq_equivalence.specs.Structure.{Corresponds, renumbered}
use Rattle.mq_equivalence.proofs.Structure.{falls-alive, in-map, map-same, named-by, needed-in}

-- lists without duplicates ------------------------------------------------------------------------

abbrev Differ : List ℕ → Type 0
Differ [] = Unit {0}
Differ (k ∷ ks) = (is_in ks k ≡ false) × Differ ks

falls-differ : (ks : List ℕ) → Falls ks → Differ ks
falls-differ [] falls = tt
falls-differ (k ∷ ks) falls = grind (arith, falls-differ ks falls.1)

in-joined : (rank : ℕ → ℕ) (m : ℕ) (line : List ℕ) (k : ℕ) →
    is_in (joined rank m line) k ≡ is_in (m ∷ line) k
in-joined rank m [] k = refl
in-joined rank m (j ∷ line) k = grind (arith, in-joined rank m line k)

in-lined : (rank : ℕ → ℕ) (ks : List ℕ) (k : ℕ) → is_in (lined rank ks) k ≡ is_in ks k
in-lined rank [] k = refl
in-lined rank (m ∷ ks) k = in-joined rank m (lined rank ks) k ∙ ap (λ (b : Bool). m == k || b)
    (in-lined rank ks k)

joined-differ : (rank : ℕ → ℕ) (m : ℕ) (line : List ℕ) → is_in line m ≡ false → Differ line →
    Differ (joined rank m line)
joined-differ rank m [] out differ = (refl, tt)
joined-differ rank m (j ∷ line) out differ =
    split (j == m)
    (λ e. let bad : true ≡ false = rw e at out in absurd (cc))
    (λ ne. let later : is_in line m ≡ false = rw ne at out in
    grind (arith, nat_tests, eqb-false, in-joined, joined-differ rank m line later differ.1))

lined-differ : (rank : ℕ → ℕ) (ks : List ℕ) → Differ ks → Differ (lined rank ks)
lined-differ rank [] differ = tt
lined-differ rank (m ∷ ks) differ = joined-differ rank m (lined rank ks) (in-lined rank ks m ∙
    differ.0) (lined-differ rank ks differ.1)

-- numbers that differ are given once
one-number : (f : ℕ → ℕ) (ks : List ℕ) → Differ (map f ks) → (i j : ℕ) → is_in ks i ≡ true →
    is_in ks j ≡ true → f i ≡ f j → i ≡ j
one-number f [] differ i j hi hj e = absurd (cc)
one-number f (k ∷ ks) differ i j hi hj e =
    let not-again : (l : ℕ) → is_in ks l ≡ true → f k ≡ f l → ⊥ =
    λ l h is. let there : is_in (map f ks) (f k) ≡ true = subst (λ (n : ℕ). is_in (map f ks) n ≡
    true) (sym is) (in-map f ks l h) in
    let bad : false ≡ true = sym differ.0 ∙ there in cc in
    split (k == i)
    (λ a. let ki : k ≡ i = eqb-true _ _ a in split (k == j)
    (λ b. sym ki ∙ eqb-true _ _ b)
    (λ b. let rest : is_in ks j ≡ true = rw b at hj in absurd (not-again j rest (ap f ki ∙ e))))
    (λ a. let resti : is_in ks i ≡ true = rw a at hi in split (k == j)
    (λ b. let kj : k ≡ j = eqb-true _ _ b in absurd (not-again i resti (ap f kj ∙ sym e)))
    (λ b. let restj : is_in ks j ≡ true = rw b at hj in one-number f ks differ.1 i j resti restj e))

-- each number is that of a queue
numbered : (to : ℕ → ℕ) (qs : List ℕ) (k : ℕ) → is_in (map to qs) k ≡ true →
    (q : ℕ) × (is_in qs q ≡ true) × (to q ≡ k)
numbered to [] k h = absurd (cc)
numbered to (j ∷ qs) k h = split (to j == k)
    (λ t. (j, rw (eq-eqb j j refl) refl, eqb-true _ _ t))
    (λ f. let rest : is_in (map to qs) k ≡ true = rw f at h in
    let found = numbered to qs k rest in
    (found.0, split (j == found.0) (λ t. rw t refl) (λ n. rw (n, found.1) refl), found.2))

-- the queue of y at the index of queue q of x
-- ------------------------------------------------------

lookup : List ℕ → List ℕ → ℕ → ℕ
lookup [] ys q = q
lookup (x ∷ xs) [] q = q
lookup (x ∷ xs) (y ∷ ys) q = if x == q then y else lookup xs ys q

pairs-at : (P : ℕ → ℕ → Type 0) (xs ys : List ℕ) (q : ℕ) → Pairs P xs ys → is_in xs q ≡ true →
    P q (lookup xs ys q)
unfolding lookup
pairs-at P [] ys q pairs h = absurd (cc)
pairs-at P (x ∷ xs) [] q pairs h = absurd pairs
pairs-at P (x ∷ xs) (y ∷ ys) q pairs h = split (x == q)
    (λ t. rw t (subst (λ (k : ℕ). P k y) (eqb-true x q t) pairs.0))
    (λ f. let rest : is_in xs q ≡ true = rw f at h in rw f (pairs-at P xs ys q pairs.1 rest))

all-found : (P : ℕ → ℕ → Type 0) (xs ys : List ℕ) → Differ xs → Pairs P xs ys →
    map (lookup xs ys) xs ≡ ys
unfolding lookup
all-found P [] [] differ pairs = refl
all-found P [] (y ∷ ys) differ pairs = absurd pairs
all-found P (x ∷ xs) [] differ pairs = absurd pairs
all-found P (x ∷ xs) (y ∷ ys) differ pairs =
    let here : lookup (x ∷ xs) (y ∷ ys) x ≡ y = rw (eq-eqb x x refl) refl in
    let later : (k : ℕ) → is_in xs k ≡ true → lookup (x ∷ xs) (y ∷ ys) k ≡ lookup xs ys k =
    λ k h. let other : (x == k) ≡ false = ne_eqb x k (λ e. let there : is_in xs x ≡ true = subst
    (λ (n : ℕ). is_in xs n ≡ true) (sym e) h in let bad : false ≡ true = sym differ.0 ∙ there in
    cc) in rw other refl
    in
    let rest : map (lookup (x ∷ xs) (y ∷ ys)) xs ≡ ys = map-same _ _ xs later ∙
    all-found P xs ys differ.1 pairs.1 in
    λ i. here i ∷ rest i

by-index : (P : ℕ → ℕ → Type 0) (xs ys : List ℕ) (q k : ℕ) → Pairs P xs ys → is_in xs q ≡ true →
    is_in ys k ≡ true → index_of xs q ≡ index_of ys k → lookup xs ys q ≡ k
unfolding lookup
by-index P [] ys q k pairs hq hk e = absurd (cc)
by-index P (x ∷ xs) [] q k pairs hq hk e = absurd pairs
by-index P (x ∷ xs) (y ∷ ys) q k pairs hq hk e = split (x == q)
    (λ t. split (y == k)
    (λ s. rw t (eqb-true y k s))
    (λ g. let bad : 0 ≡ suc (index_of ys k) = rw (t, g) at e in absurd (omega (arith, bad))))
    (λ f. split (y == k)
    (λ s. let bad : suc (index_of xs q) ≡ 0 = rw (f, s) at e in absurd (omega (arith, bad)))
    (λ g. let both : suc (index_of xs q) ≡ suc (index_of ys k) = rw (f, g) at e in
    let inq : is_in xs q ≡ true = rw f at hq in
    let ink : is_in ys k ≡ true = rw g at hk in
    rw f (by-index P xs ys q k pairs.1 inq ink (omega (arith, both)))))

-- parts of the key --------------------------------------------------------------------------------

record SameQueue (received : Bool) (x y : Past) (q k : ℕ) : Type 0 where
  name : bound_name x q ≡ bound_name y k
  limits : attributes x q ≡ attributes y k
  messages : seen received (contents x q) ≡ seen received (contents y k)
  sending : seen_senders received (senders x q) ≡ seen_senders received (senders y k)
  receiving : receivers x q ≡ receivers y k
  registered : registered_as x q ≡ registered_as y k

told-queue : (received : Bool) (x y : Past) (q k : ℕ) (u v : List ℕ) →
    queue_code received x q ++ u ≡ queue_code received y k ++ v →
    SameQueue received x y q k × (u ≡ v)
told-queue received x y q k u v e =
    let n = optional bytes_code (bound_name x q) in
    let a = limits_code (attributes x q) in
    let b = listed (optional message_code) (seen received (contents x q)) in
    let c = listed (optional sender_code) (seen_senders received (senders x q)) in
    let d = listed (optional number) (receivers x q) in
    let r = optional registered_code (registered_as x q) in
    let n2 = optional bytes_code (bound_name y k) in
    let a2 = limits_code (attributes y k) in
    let b2 = listed (optional message_code) (seen received (contents y k)) in
    let c2 = listed (optional sender_code) (seen_senders received (senders y k)) in
    let d2 = listed (optional number) (receivers y k) in
    let r2 = optional registered_code (registered_as y k) in
    let flat : n ++ (a ++ (b ++ (c ++ (d ++ (r ++ u))))) ≡
    n2 ++ (a2 ++ (b2 ++ (c2 ++ (d2 ++ (r2 ++ v))))) =
    sym (flatten n a b c d r u) ∙ e ∙ flatten n2 a2 b2 c2 d2 r2 v
    in
    let name = decodable-optional bytes_code decodable-bytes_code (bound_name x q)
    (bound_name y k) _ _ flat in
    grind (
      arith,
      nat_tests,
      decodable-limits,
      decodable-listed,
      decodable-optional,
      decodable-message,
      decodable-sender,
      decodable-number,
      decodable-registered,
    )
  where
    flatten : (n a b c d r u : List ℕ) → (n ++ (a ++ (b ++ (c ++ (d ++ r))))) ++ u ≡
        n ++ (a ++ (b ++ (c ++ (d ++ (r ++ u)))))
    flatten n a b c d r u = simp append_assoc

record SameProcess (x y : Past) (p : ℕ) : Type 0 where
  room : waiting_room x p ≡ waiting_room y p
  deadline : wait_deadline x p ≡ wait_deadline y p
  answered : answer x p ≡ answer y p
  notices : notices x p ≡ notices y p
  holds : (d : ℕ) → SameHeld (queues_by_name x) (queues_by_name y) (held x p d) (held y p d)

-- what a process holds, number by number
holdings : List ℕ → Past → ℕ → ℕ → List ℕ
holdings queues past p n = listed (optional (description_code queues))
    (map (held past p) (numbers_from 0 n))

by-number : (queues : List ℕ) (past : Past) (p n : ℕ) →
    holdings queues past p n ≡ listed (λ d. optional (description_code queues) (held past p d))
    (numbers_from 0 n)
unfolding holdings
by-number queues past p n = listed-map (optional (description_code queues)) (held past p)
    (numbers_from 0 n)

none-held : (qs ks : List ℕ) (o p : Option Description) → o ≡ None → p ≡ None → SameHeld qs ks o p
none-held qs ks o p e f = grind arith

holds-same : (x y : Past) (p w v : ℕ) (us vs : List ℕ) → number_bound x ≤ w → number_bound y ≤ v →
    holdings (queues_by_name x) x p w ++ us ≡ holdings (queues_by_name y) y p v ++ vs →
    ((d : ℕ) → SameHeld (queues_by_name x) (queues_by_name y) (held x p d) (held y p d)) × (us ≡ vs)
holds-same x y p w v us vs wide_x wide_y e =
    let f : ℕ → List ℕ = λ d. optional (description_code (queues_by_name x)) (held x p d) in
    let g : ℕ → List ℕ = λ d. optional (description_code (queues_by_name y)) (held y p d) in
    let both : listed f (numbers_from 0 w) ++ us ≡ listed g (numbers_from 0 v) ++ vs =
    ap (λ (ns : List ℕ). ns ++ us) (sym (by-number (queues_by_name x) x p w)) ∙ e ∙
    ap (λ (ns : List ℕ). ns ++ vs) (by-number (queues_by_name y) y p v)
    in
    let told = listed-numbered f g (λ d. SameHeld (queues_by_name x) (queues_by_name y) (held x p d)
    (held y p d)) (λ d u v e. told-held (queues_by_name x) (queues_by_name y) (held x p d)
    (held y p d) u v e) w v us vs both in (
      (λ d. split (nat_le w d)
          (λ t. none-held (queues_by_name x) (queues_by_name y) (held x p d) (held y p d)
          (held-above x p d (omega (arith, leb-true _ _ t, wide_x)))
          (held-above y p d (omega (arith, leb-true _ _ t, told.count, wide_y))))
          (λ l. told.each d (omega (arith, leb-false _ _ l)))),
      told.rest,
    )

told-process : (x y : Past) (n m : ℕ) → number_bound x ≤ n → number_bound y ≤ m →
    (p : ℕ) (u v : List ℕ) → process_code n x p ++ u ≡ process_code m y p ++ v →
    SameProcess x y p × (u ≡ v)
unfolding holdings
told-process x y n m wide_x wide_y p u v e =
    let a = optional number (waiting_room x p) in
    let b = optional deadline_code (wait_deadline x p) in
    let c = optional (optional (optional message_code)) (answer x p) in
    let d = listed number (notices x p) in
    let h = holdings (queues_by_name x) x p n in
    let a2 = optional number (waiting_room y p) in
    let b2 = optional deadline_code (wait_deadline y p) in
    let c2 = optional (optional (optional message_code)) (answer y p) in
    let d2 = listed number (notices y p) in
    let h2 = holdings (queues_by_name y) y p m in
    let flat : a ++ (b ++ (c ++ (d ++ (h ++ u)))) ≡ a2 ++ (b2 ++ (c2 ++ (d2 ++ (h2 ++ v)))) =
    sym (flatten a b c d h u) ∙ e ∙ flatten a2 b2 c2 d2 h2 v in
    let room = decodable-optional number decodable-number (waiting_room x p)
    (waiting_room y p) _ _ flat in
    let deadline = decodable-optional deadline_code decodable-deadline (wait_deadline x p)
    (wait_deadline y p) _ _ room.1 in
    let deep = decodable-optional (optional (optional message_code))
    (decodable-optional (optional message_code)
    (decodable-optional message_code decodable-message)) in
    let answered = deep (answer x p) (answer y p) _ _ deadline.1 in
    let values = decodable-listed number decodable-number (notices x p) (notices y p)
    _ _ answered.1 in
    let held_is = holds-same x y p n m u v wide_x wide_y values.1 in (
      record {
        room = room.0;
        deadline = deadline.0;
        answered = answered.0;
        notices = values.0;
        holds = held_is.0;
      },
      held_is.1,
    )
  where
    flatten : (a b c d h u : List ℕ) →
        (a ++ (b ++ (c ++ (d ++ h)))) ++ u ≡ a ++ (b ++ (c ++ (d ++ (h ++ u))))
    flatten a b c d h u = simp append_assoc

idle-same : (x y : Past) (p : ℕ) → IsIdle x p → IsIdle y p → HasNothing x p → HasNothing y p →
    SameProcess x y p
idle-same x y p i j u v = grind (arith, none-held)

-- a caller without a wait is as the first thread of its process, but for the wait
owner-same : (x y : Past) (p : ℕ) → IsIdle x p → IsIdle y p → SameProcess x y (owner_of p) →
    SameProcess x y p
owner-same x y p i j s =
    let mates = sym (owner_owner p) in
    record {
      room = rw (i.waits, j.waits) refl;
      deadline = i.deadline ∙ sym j.deadline;
      answered = rw (i.answered, j.answered) refl;
      notices = notices-mates x p (owner_of p) mates ∙ s.notices ∙
          sym (notices-mates y p (owner_of p) mates);
      holds = λ d. rw (held-mates x p (owner_of p) mates d, held-mates y p (owner_of p) mates d)
          (s.holds d);
    }

-- callers at or above the bounds, if those below them are the same
above-same : (x y : Past) (n p : ℕ) → process_bound x ≤ n → process_bound y ≤ n → n ≤ p →
    ((k : ℕ) → k < n → SameProcess x y k) → SameProcess x y p
above-same x y n p high_x high_y le each =
    let i = idle-above x p (omega arith) in
    let j = idle-above y p (omega arith) in
    split (nat_le n (owner_of p))
    (λ t. idle-same x y p i j (nothing-above x p (omega (arith, leb-true _ _ t)))
    (nothing-above y p (omega (arith, leb-true _ _ t))))
    (λ f. owner-same x y p i j (each (owner_of p) (omega (arith, leb-false _ _ f))))

-- the whole key -----------------------------------------------------------------------------------

by-name : (past : Past) (q : ℕ) → is_in (alive past) q ≡ true → is_in (queues_by_name past) q ≡ true
by-name past q h = in-lined (name_rank past) (alive past) q ∙ h

pub existing : (past : Past) (q : ℕ) → is_in (queues_by_name past) q ≡ true →
    is_in (alive past) q ≡ true
existing past q h = sym (in-lined (name_rank past) (alive past) q) ∙ h

names-differ : (past : Past) → Differ (queues_by_name past)
names-differ past = lined-differ (name_rank past) (alive past) (falls-differ (alive past)
    (falls-alive past))

pub some-map : {X Y : Type 0} (f : X → Y) (o : Option X) → is_some (option_map f o) ≡ is_some o
some-map f o = grind arith

-- a queue that is bound to its name has it, and is bound by it
named-of : (past : Past) (q : ℕ) (name : List ℕ) → bound_name past q ≡ Some name →
    bound_queue past name ≡ Some q
named-of past q name e = grind (arith, named-bound)

name-of : (past : Past) (q : ℕ) (name : List ℕ) → bound_queue past name ≡ Some q →
    bound_name past q ≡ Some name
name-of past q name e = rw (bound-named past name q e, bound-name past name q e) refl

module _ (received : Bool) (x y : Past) (legal_x : Legal x) (legal_y : Legal y)
    (pairs : Pairs (SameQueue received x y) (queues_by_name x) (queues_by_name y)) where
  to : ℕ → ℕ
  to = lookup (queues_by_name x) (queues_by_name y)

  same-at : (q : ℕ) → is_in (alive x) q ≡ true → SameQueue received x y q (to q)
  unfolding to
  same-at q inside = pairs-at (SameQueue received x y) (queues_by_name x) (queues_by_name y) q pairs
      (by-name x q inside)

  queues-are : queues_by_name y ≡ map to (queues_by_name x)
  unfolding to
  queues-are = sym (all-found (SameQueue received x y) (queues_by_name x) (queues_by_name y)
      (names-differ x) pairs)

  queues-to : Corresponds to (alive x) (alive y)
  queues-to = record {
    each = λ q h. existing y (to q) (subst (λ (ks : List ℕ). is_in ks (to q) ≡ true)
        (sym queues-are) (in-map to (queues_by_name x) q (by-name x q h)));
    every = λ k h.
        let found = numbered to (queues_by_name x) k (subst (λ (ks : List ℕ). is_in ks k ≡ true)
        queues-are (by-name y k h)) in
        (found.0, existing x found.0 found.1, found.2);
    once = λ p q hp hq e. one-number to (queues_by_name x)
        (subst Differ queues-are (names-differ y)) p q (by-name x p hp) (by-name x q hq) e;
  }

  names-to : (name : List ℕ) → bound_queue y name ≡ option_map to (bound_queue x name)
  names-to name = by (bound_queue x name) refl
    where
      none : (o : Option ℕ) → bound_queue y name ≡ o → bound_queue x name ≡ None → o ≡ None
      none None e was = refl
      none (Some k) e was =
          let found = queues-to.every k (needed-in y legal_y k (named-by y name k e)) in
          let there : bound_name y (to found.0) ≡ Some name = name-of y (to found.0) name
          (e ∙ ap (λ (j : ℕ). Some j) (sym found.2)) in
          let here : bound_queue x name ≡ Some found.0 = named-of x found.0 name
          ((same-at found.0 found.1).name ∙ there) in
          absurd (let bad : None ≡ Some found.0 = sym was ∙ here in cc)

      by : (o : Option ℕ) → bound_queue x name ≡ o → bound_queue y name ≡ option_map to o
      by None e = none (bound_queue y name) refl e
      by (Some q) e = named-of y (to q) name
          (sym (same-at q (needed-in x legal_x q (named-by x name q e))).name ∙ name-of x q name e)

  held-to : (p d : ℕ) (o n : Option Description) → held x p d ≡ o → held y p d ≡ n →
      SameHeld (queues_by_name x) (queues_by_name y) o n → n ≡ option_map (renumbered to) o
  unfolding to
  held-to p d None None e f same = refl
  held-to p d None (Some h) e f same = absurd same
  held-to p d (Some g) None e f same = absurd same
  held-to p d (Some g) (Some h) e f same =
      let queue : to g.queue ≡ h.queue = by-index (SameQueue received x y) (queues_by_name x)
      (queues_by_name y) g.queue h.queue pairs
      (by-name x g.queue (held-alive x legal_x p d g e))
      (by-name y h.queue (held-alive y legal_y p d h f)) same.queue in
      λ i. Some (record {
        queue = sym queue i;
        access = sym same.access i;
        nonblock = sym same.nonblock i;
      })

  equivalent-by : ((p : ℕ) → SameProcess x y p) → Agree received x y
  equivalent-by process = record {
    to = to;
    equivalent = record {
      legal = (legal_x, legal_y);
      structure = record {
        names = names-to;
        descriptors = λ p d. held-to p d (held x p d) (held y p d) refl refl ((process p).holds d);
        queues = queues-to;
        limits = λ q inside. sym (same-at q inside).limits;
      };
      messages = λ q inside. sym (same-at q inside).messages;
      sending = λ q inside. sym (same-at q inside).sending;
      receiving = λ q inside. sym (same-at q inside).receiving;
      registrations = λ q inside. sym (same-at q inside).registered;
      values = λ p. sym (process p).notices;
      waits = λ p. sym (some-map (λ w. room_of (waiting_call y p)) (open_wait y p)) ∙
          ap (λ (o : Option ℕ). is_some o) (sym (process p).room) ∙
          some-map (λ w. room_of (waiting_call x p)) (open_wait x p);
      rooms = λ p. sym (process p).room;
      deadlines = λ p. sym (process p).deadline;
      answered = λ p. sym (process p).answered;
    };
  }

pub same-within : (received : Bool) (x y : Past) (n m w v : ℕ) → Legal x → Legal y →
    process_bound x ≤ n → process_bound y ≤ m → number_bound x ≤ w → number_bound y ≤ v →
    key_within received n w x ≡ key_within received m v y → Agree received x y
same-within received x y n m w v legal_x legal_y high_x high_y wide_x wide_y e =
    let us = listed (process_code w x) (numbers_from 0 n) in
    let vs = listed (process_code v y) (numbers_from 0 m) in
    let queues = told-pairs (queue_code received x) (queue_code received y) (SameQueue received x y)
    (told-queue received x y) (queues_by_name x) (queues_by_name y) us vs e in
    let ends : us ++ [] ≡ vs ++ [] = ap (λ (ws : List ℕ). ws ++ []) queues.1 in
    let processes = listed-numbered (process_code w x) (process_code v y) (SameProcess x y)
    (told-process x y w v wide_x wide_y) n m [] [] ends in
    equivalent-by received x y legal_x legal_y queues.0
    (λ p. split (nat_le n p)
    (λ t. above-same x y n p high_x (omega (arith, processes.count, high_y))
    (leb-true _ _ t) processes.each)
    (λ f. processes.each p (omega (arith, leb-false _ _ f))))

pub same-key : (received : Bool) (x y : Past) → Legal x → Legal y →
    key_if received x ≡ key_if received y → Agree received x y
same-key received x y legal_x legal_y e = grind (arith, same-within)
