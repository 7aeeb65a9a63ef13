-- Sums over the views of a table, and facts about each view and each element of a list.
use Rattle.std.proofs.Common.{◌≡◌, ℕ, zero, suc, ◌+◌, ◌<◌, ◌≤◌, ◌≢◌, eqb, cond, List, [], ◌∷◌, ◌++◌, set, length, sym, refl, ap, ◌∙◌, subst, arith, append_assoc, ne_eqb, eq-eqb, ⊎_elim}
use Rattle.std.specs.List.{AllByRecursion as Each}
use mathlib.Core.Option.{some, some-injective, some-ne-none}
use mathlib.Core.Logic.{dite}
use native.Mathlib.Decide.{ℕ_discrete}
use lib.ListN.{get_elem?}
use Rattle.atomic_table.proofs.Lists.{at_set}
use Rattle.std.proofs.lemmas.List.Elements.{filter-append, recursion_from_All}
use Rattle.fast_mutex.specs.Items.{items_of, Grows, GrowsBy}
use Rattle.fast_mutex.specs.Seats.{Claim, sum_over, times, new_claims}

module _ {V : Type 0} (f : V → ℕ) where
  pub sum_over-set : (l : List V) (i : ℕ) (a b : V) → get_elem? l i ≡ some a →
      sum_over f (set l i b) + f a ≡ sum_over f l + f b
  sum_over-set [] i a b e = absurd (some-ne-none a (sym e))
  sum_over-set (x ∷ xs) zero a b e = let h : f x ≡ f a = ap f (some-injective x a e) in omega arith
  sum_over-set (x ∷ xs) (suc i) a b e = let h = sum_over-set xs i a b e in omega arith

  pub sum_over-append : (l m : List V) → sum_over f (l ++ m) ≡ sum_over f l + sum_over f m
  sum_over-append [] m = omega arith
  sum_over-append (x ∷ xs) m = let h = sum_over-append xs m in omega arith

  pub one_in_sum : (l : List V) (i : ℕ) (a : V) → get_elem? l i ≡ some a → f a ≤ sum_over f l
  one_in_sum [] i a e = absurd (some-ne-none a (sym e))
  one_in_sum (x ∷ xs) zero a e = let h : f x ≡ f a = ap f (some-injective x a e) in omega arith
  one_in_sum (x ∷ xs) (suc i) a e = let h = one_in_sum xs i a e in omega arith

  pub two_in_sum : (l : List V) (i j : ℕ) (a b : V) → i ≢ j → get_elem? l i ≡ some a →
      get_elem? l j ≡ some b → f a + f b ≤ sum_over f l
  two_in_sum [] i j a b n d e = absurd (some-ne-none a (sym d))
  two_in_sum (x ∷ xs) zero zero a b n d e = absurd (n refl)
  two_in_sum (x ∷ xs) zero (suc j) a b n d e = let h : f x ≡ f a = ap f (some-injective x a d) in
      let k = one_in_sum xs j b e in omega arith
  two_in_sum (x ∷ xs) (suc i) zero a b n d e = let h : f x ≡ f b = ap f (some-injective x b e) in
      let k = one_in_sum xs i a d in omega arith
  two_in_sum (x ∷ xs) (suc i) (suc j) a b n d e = let k = two_in_sum xs i j a b (λ p. n (ap suc p))
      d e in omega arith

-- what holds of the view of the seat that moved, and of each other, holds of each
pub views_stay : {V : Type 0} (P : V → Type 0) (vs : List V) (me : ℕ) (w : V) → P w →
    ((j : ℕ) (d : V) → j ≢ me → get_elem? vs j ≡ some d → P d)
    → (j : ℕ) (d : V) → get_elem? (set vs me w) j ≡ some d → P d
views_stay P vs me w mine others j d e = ⊎_elim (λ (t : (j ≡ me) × (w ≡ d)). subst P t.1 mine)
    (λ (t : (j ≢ me) × (get_elem? vs j ≡ some d)). others j d t.0 t.1) (at_set vs me j w d e)

pub in_length : {A : Type 0} (l : List A) (i : ℕ) (a : A) → get_elem? l i ≡ some a → i < length l
in_length [] i a e = absurd (some-ne-none a (sym e))
in_length (x ∷ xs) zero a e = omega arith
in_length (x ∷ xs) (suc i) a e = let h = in_length xs i a e in omega arith

-- a seat's new view with the same numbers
module _ {V : Type 0} (f : V → ℕ) (vs : List V) (id : ℕ) (v w : V) (at : get_elem? vs id ≡ some v)
    (same : f w ≡ f v) where
  pub once_same : sum_over f vs ≤ 1 → sum_over f (set vs id w) ≤ 1
  once_same h = let s = sum_over-set f vs id v w at in omega arith

  pub total_same : (n : ℕ) → sum_over f vs ≡ n → sum_over f (set vs id w) ≡ n
  total_same n h = let s = sum_over-set f vs id v w at in omega arith

module _ {A : Type 0} where
  pub each-append : (P : A → Type 0) (xs ys : List A) → Each P xs → Each P ys → Each P (xs ++ ys)
  each-append P [] ys p q = q
  each-append P (x ∷ xs) ys p q = (p.0, each-append P xs ys p.1 q)

  pub each_weaker : (P Q : A → Type 0) → ((x : A) → P x → Q x) → (xs : List A) → Each P xs →
      Each Q xs
  each_weaker P Q h [] p = tt
  each_weaker P Q h (x ∷ xs) p = (h x p.0, each_weaker P Q h xs p.1)

module _ {I : Type 0} where
  pub times_here : (k : ℕ) (l : List I) (cs : List (Claim I)) →
      times k ((k, l) ∷ cs) ≡ 1 + times k cs
  times_here k l cs = ap (λ b. cond b 1 0 + times k cs) (eq-eqb k k refl)

  pub times_other : (k j : ℕ) (l : List I) (cs : List (Claim I)) → j ≢ k →
      times k ((j, l) ∷ cs) ≡ times k cs
  times_other k j l cs n = ap (λ b. cond b 1 0 + times k cs) (ne_eqb j k n) ∙ omega arith

  pub times-append : (k : ℕ) (cs ds : List (Claim I)) → times k (cs ++ ds) ≡ times k cs + times k ds
  times-append k [] ds = omega arith
  times-append k (c ∷ cs) ds = let h = times-append k cs ds in omega arith

module _ {I : Type 0} (left : List I) where
  pub times-below : (j k n : ℕ) → j < k → times j (new_claims left k n) ≡ 0
  times-below j k zero h = refl
  times-below j k (suc n) h = times_other j k left (new_claims left (suc k) n) (λ e. omega arith) ∙
      times-below j (suc k) n (omega arith)

  pub new_claims_once : (j k n : ℕ) → times j (new_claims left k n) ≤ 1
  new_claims_once j k zero = omega arith
  new_claims_once j k (suc n) = dite (ℕ_discrete k j)
      (λ e. let a = times_here k left (new_claims left (suc k) n) in let b = times-below k (suc k) n
      (omega arith) in let P : ℕ → Type 0 = λ z. times z (new_claims left k (suc n)) ≤ 1 in
      subst P e (omega arith))
      (λ ne. let a = times_other j k left (new_claims left (suc k) n) ne in let b = new_claims_once
      j (suc k) n in omega arith)

  pub length-new_claims : (k n : ℕ) → length (new_claims left k n) ≡ n
  length-new_claims k zero = refl
  length-new_claims k (suc n) = ap suc (length-new_claims (suc k) n)

module _ {I : Type 0} (author : I → ℕ) where
  pub own_lacks : (k j : ℕ) → j ≢ k → (xs : List I) → Each (λ x. author x ≡ k) xs →
      items_of author j xs ≡ []
  own_lacks k j n [] own = refl
  own_lacks k j n (x ∷ xs) own = ap (λ b. cond b (x ∷ items_of author j xs) (items_of author j xs))
      (ne_eqb (author x) j (λ e. n (sym e ∙ own.0))) ∙ own_lacks k j n xs own.1

  -- what k added is not j's
  pub grows_more : (k j : ℕ) (seen now next : List I) → j ≢ k → Grows author j seen now [] →
      GrowsBy author k now next → Grows author j seen next []
  grows_more k j seen now next n g a = record {
    behind = a.behind ++ g.behind;
    is = a.is ∙ ap (λ l. a.behind ++ l) g.is ∙ sym (append_assoc a.behind g.behind seen);
    mine = filter-append (λ x. eqb (author x) j) a.behind g.behind ∙
        (λ i. own_lacks k j n a.behind (recursion_from_All (λ x. author x ≡ k) a.behind a.mine) i ++
        g.mine i);
  }

  pub grows_none : (j : ℕ) (now : List I) → Grows author j now now []
  grows_none j now = record { behind = []; is = refl; mine = refl }
