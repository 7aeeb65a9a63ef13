-- Facts on lists of places.
use Rattle.std.proofs.Common.{◌≡◌, ℕ, ◌==◌, Bool, true, false, ◌||◌, List, [], ◌∷◌, Option, Some, refl, arith}
use Rattle.std.specs.List.{filter, find}
use Rattle.std.proofs.lemmas.Bool.Decides.{nat_tests}
use Rattle.mq_model.specs.Messages.{is_in, with_place}

-- a claim by whether a test holds
pub split : {C : Type 0} (b : Bool) → (b ≡ true → C) → (b ≡ false → C) → C
split b t f = grind arith

pub same_place : (i j : ℕ) → (i == j) ≡ true → i ≡ j
same_place i j h = grind (arith, nat_tests)

pub other_place : (i j : ℕ) → (i == j) ≡ false → i ≡ j → ⊥
other_place i j h e = grind (arith, nat_tests)

pub clash : {C : Type 0} (b : Bool) → b ≡ true → b ≡ false → C
clash b t f = absurd (cc)

pub is_in-filter : (t : ℕ → Bool) (xs : List ℕ) (m : ℕ) → is_in (filter t xs) m ≡ true →
    (is_in xs m ≡ true) × (t m ≡ true)
is_in-filter t [] m h = absurd (cc)
is_in-filter t (x ∷ xs) m h =
    split (t x)
    (λ passes. let h' : (x == m || is_in (filter t xs) m) ≡ true = rw passes at h in
    split (x == m)
    (λ here. (rw here refl, rw (← same_place x m here) passes))
    (λ other. let rest : is_in (filter t xs) m ≡ true = rw other at h' in let found = is_in-filter t
    xs m rest in (rw (other, found.0) refl, found.1)))
    (λ fails. let rest : is_in (filter t xs) m ≡ true = rw fails at h in let found = is_in-filter t
    xs m rest in (
      split (x == m) (λ here. rw here refl) (λ other. rw (other, found.0) refl),
      found.1,
    ))

pub find-in : (t : ℕ → Bool) (xs : List ℕ) (m : ℕ) → find t xs ≡ Some m →
    (is_in xs m ≡ true) × (t m ≡ true)
find-in t [] m h = absurd (cc)
find-in t (x ∷ xs) m h =
    split (t x)
    (λ passes. let e : Some x ≡ Some m = rw passes at h in let same : x ≡ m = cc in
    (rw same (eqb-same m xs), rw (← same) passes))
    (λ fails. let e : find t xs ≡ Some m = rw fails at h in let found = find-in t xs m e in
    (split (x == m) (λ here. rw here refl) (λ other. rw (other, found.0) refl), found.1))
  where
    eqb-same : (m : ℕ) (xs : List ℕ) → (m == m || is_in xs m) ≡ true
    eqb-same m xs = let e : (m == m) ≡ true = grind (arith, nat_tests) in rw e refl

pub is_in-with_place : (o : Option ℕ) (xs : List ℕ) (m : ℕ) → is_in xs m ≡ true →
    is_in (with_place o xs) m ≡ true
is_in-with_place o xs m h = grind arith
