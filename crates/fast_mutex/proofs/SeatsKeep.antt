-- What is known of the seats of a lock while they are dealt out and joined again.
use Rattle.std.proofs.Common.{◌≡◌, ℕ, suc, zero, ◌+◌, ◌≤◌, ◌-◌, map, List, [], ◌∷◌, ◌++◌, length, sym, ap, ◌∙◌, subst, arith, append_assoc, Option as Opt, Some, false}
use Rattle.std.specs.List.{All, AllByRecursion as Each}
use Rattle.std.proofs.lemmas.List.Elements.{All-from_recursion}
use mathlib.Core.Option.{some}
use mathlib.Core.List.{map-append}
use lib.ListN.{get_elem?}
use Rattle.atomic_table.specs.Table.{State, Me, Final, Seen}
use Rattle.atomic_table.specs.Seated.{TableId}
use Rattle.atomic_table.specs.declared.shared.Seat.{Seat}
use Rattle.fast_mutex.specs.Items.{LockId, Ticket, ticket_with, tickets_with, Grows}
use Rattle.fast_mutex.specs.declared.seats.About.{About}
use Rattle.fast_mutex.specs.Seats.{Claim, Fixed, Resting, Deals, IsAlone, fresh, claim_of, joint_view, new_claims, last_left, lock_id, ticket_of}

module _ {I : Type 0} (lock : LockId) (left : List I) where
  tickets_with-suc : (k n : ℕ) → tickets_with lock left k (suc n) ≡ tickets_with lock left k n ++
      ticket_with lock left (k + n) ∷ []
  tickets_with-suc k zero = let e : k ≡ k + 0 = omega arith in
      ap (λ (z : ℕ). ticket_with lock left z ∷ []) e
  tickets_with-suc k (suc n) = let e : suc k + n ≡ k + suc n = omega arith in
      ap (λ l. ticket_with lock left k ∷ l) (tickets_with-suc (suc k) n ∙
      ap (λ z. tickets_with lock left (suc k) n ++ ticket_with lock left z ∷ []) e)

  pub tickets_pushed : {A : Type 0} (f : A → Ticket I) (xs ys : List A) (x : A) (k : ℕ) → 1 ≤ k →
      ys ≡ xs ++ x ∷ [] → f x ≡ ticket_with lock left k →
      map f xs ≡ tickets_with lock left 1 (k - 1) → map f ys ≡ tickets_with lock left 1 k
  tickets_pushed f xs ys x k low e fx h =
      let a : 1 + (k - 1) ≡ k = omega arith in
      let b : suc (k - 1) ≡ k = omega arith in
      ap (map f) e ∙ map-append f xs (x ∷ []) ∙ ap (λ l. l ++ f x ∷ []) h ∙
      ap (λ z. tickets_with lock left 1 (k - 1) ++ z ∷ []) (fx ∙ ap (ticket_with lock left)
      (sym a)) ∙ sym (tickets_with-suc 1 (k - 1)) ∙ ap (tickets_with lock left 1) b

module _ {A I : Type 0} (f : A → Claim I) where
  pub pop_claims : (xs ys : List A) (x : A) (ds cs : List (Claim I)) → xs ≡ ys ++ x ∷ [] →
      ds ≡ f x ∷ [] → map f ys ++ (ds ++ cs) ≡ map f xs ++ cs
  pop_claims xs ys x ds cs e d = ap (λ l. map f ys ++ (l ++ cs)) d ∙
      sym (ap (λ l. map f l ++ cs) e ∙ ap (λ l. l ++ cs) (map-append f ys (x ∷ [])) ∙ append_assoc
      (map f ys) (f x ∷ []) cs)

  each_map : (P : Claim I → Type 0) (xs : List A) → Each P (map f xs) → Each (λ x. P (f x)) xs
  each_map P [] h = tt
  each_map P (x ∷ xs) h = (h.0, each_map P xs h.1)

  pub all_claims : (P : Claim I → Type 0) (xs : List A) (cs : List (Claim I)) → cs ≡ map f xs →
      Each P cs → All (λ x. P (f x)) xs
  all_claims P xs cs e h = All-from_recursion (λ x. P (f x)) xs (each_map P xs (subst (Each P) e h))

module _ {V I : Type 0} (r : Resting V I) where
  fresh_fixed : (v : V) (f : Fixed) (cs : List (Claim I)) → v ≡ fresh r f cs → r.fixed v ≡ f
  fresh_fixed v f cs e = ap r.fixed e ∙ r.rest_fixed r.blank f cs

  fresh_claims : (v : V) (f : Fixed) (cs : List (Claim I)) → v ≡ fresh r f cs → r.claims v ≡ cs
  fresh_claims v f cs e = ap r.claims e ∙ r.rest_claims r.blank f cs

  fresh_is : (v : V) (f : Fixed) (cs : List (Claim I)) → v ≡ fresh r f cs →
      v ≡ r.rest v f (r.claims v)
  fresh_is v f cs e = e ∙ sym (r.rest_again r.blank f f cs cs) ∙
      (λ i. r.rest (sym e i) f (sym (fresh_claims v f cs e) i))

  -- two seats are joined
  pub joined_is : (v w a : V) (f : Fixed) → v ≡ r.rest v f (r.claims v) → a ≡ joint_view r v w →
      a ≡ r.rest a f (r.claims a)
  joined_is v w a f e j = let same : r.fixed v ≡ f = ap r.fixed e ∙ r.rest_fixed v f (r.claims v) in
      fresh_is a f (r.claims w ++ r.claims v)
      (j ∙ ap (λ z. fresh r z (r.claims w ++ r.claims v)) same)

  pub joined_claims : (v w a : V) → a ≡ joint_view r v w → r.claims a ≡ r.claims w ++ r.claims v
  joined_claims v w a j = ap r.claims j ∙ r.rest_claims r.blank (r.fixed v) (r.claims w ++
      r.claims v)

module _ {S V I : Type 0} (r : Resting V I) where
  -- the seat of one process
  pub alone_claims : (me : Me (Opt S) V) (k : ℕ) → IsAlone r k me →
      r.claims me.0 ≡ claim_of r k me.0 ∷ []
  alone_claims me k e = ap (λ m. r.claims m.0) e ∙ r.rest_claims me.0 (r.fixed me.0)
      (claim_of r k me.0 ∷ [])

  pub alone_is : (me : Me (Opt S) V) (f : Fixed) (k : ℕ) → IsAlone r k me → r.fixed me.0 ≡ f →
      me.0 ≡ r.rest me.0 f (r.claims me.0)
  alone_is me f k e same = ap (λ m. m.0) e ∙
      (λ i. r.rest me.0 (same i) (sym (alone_claims me k e) i))

  -- the ticket of a seat that has left the list that all have left
  pub last_ticket : (s : Seat (Opt S) V) (z : TableId) (f : Fixed) (left : List I) (k n : ℕ) →
      s.table_id ≡ z → s.me ≡ (fresh r f (new_claims left k (suc n)), []) →
      ticket_of r k s ≡ ticket_with (lock_id z f) left k
  last_ticket s z f left k n own me =
      let v : s.me.0 ≡ fresh r f (new_claims left k (suc n)) = ap (λ m. m.0) me in
      let t : r.told s.me.0 ≡ false = ap r.told v ∙ r.fresh_told f (new_claims left k (suc n)) in
      λ i. record {
        lock = lock_id (own i) (fresh_fixed r s.me.0 f _ v i);
        number = k;
        left = last_left (fresh_claims r s.me.0 f _ v i);
        told = t i;
      }

-- the state that the table ends with
module _ {S V I : Type 0} (r : Resting V I) (shows : S → List I) (fixes : S → List ℕ)
    (author : I → ℕ) (about : About S) (holds : State (Opt S) V → Type 0) where
  pub finishes : Deals r shows fixes author about holds →
      (id : ℕ) (v : V) (f : Fixed) (cs : List (Claim I)) (ws : List ℕ) (xs : List (Opt S))
      (result : S) → v ≡ r.rest v f cs → about.count ≤ length cs → Final (Seen holds id v) ws xs
      → get_elem? xs 0 ≡ some (Some result) → (fixes result ≡ fixes about.state.value) ×
      Each (λ (c : Claim I). Grows author c.0 c.1 (shows result) []) cs
  finishes d id v f cs ws xs result e all fin got = let t = d.ends id v f cs ws xs e all fin in
      let st : S = t.0 in
      let both : some (Some st) ≡ some (Some result) = sym t.1 ∙ got in
      let same : st ≡ result = cc in
      let P : S → Type 0 = λ x. (fixes x ≡ fixes about.state.value) ×
      Each (λ (c : Claim I). Grows author c.0 c.1 (shows x) []) cs in subst P same (t.2, t.3)
