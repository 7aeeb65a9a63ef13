-- The message that goes before all others is the best, and a pop takes it.
use Rattle.std.proofs.Common.{◌≡◌, ◌≢◌, ◌↔◌, ℕ, Bool, true, ◌⊎◌, List, [], ◌∷◌, Option, Some, None, IsNone, IfSome, refl, sym, arith}
use Rattle.std.specs.List.{find, list_all, Contains}
use Rattle.std.specs.Option.{option_map}
use Rattle.std.proofs.lemmas.Bool.{and_from}
use Rattle.std.proofs.lemmas.Bool.Decides.{nat_tests}
use Rattle.mq_slots.specs.Messages.{IsBest, without}
use Rattle.mq_slots.proofs.Placing.{contains-cons, contains-later, contains-here}
use Rattle.mq_state.specs.Order.{goes_first, best_slot}

all-of : (s : ℕ × ℕ → Bool) (xs : List (ℕ × ℕ)) → ((m : ℕ × ℕ) → Contains xs m → s m ≡ true) →
    list_all s xs ≡ true
all-of s [] all = refl
all-of s (x ∷ xs) all = and_from (s x) (list_all s xs) (all x (contains-here x xs))
    (all-of s xs (λ m there. all m (contains-later x xs m there)))

of-all : (s : ℕ × ℕ → Bool) (xs : List (ℕ × ℕ)) → list_all s xs ≡ true → (m : ℕ × ℕ) →
    Contains xs m → s m ≡ true
of-all s [] all m there = absurd (let within = there.1 in omega arith)
of-all s (x ∷ xs) all m there = grind (arith, contains-cons, of-all s xs)

-- the only one that passes is found
find-only : (t : ℕ × ℕ → Bool) (xs : List (ℕ × ℕ)) (b : ℕ × ℕ) → Contains xs b → t b ≡ true →
    ((m : ℕ × ℕ) → Contains xs m → t m ≡ true → m ≡ b) → find t xs ≡ Some b
find-only t [] b there passes only = absurd (let within = there.1 in omega arith)
find-only t (x ∷ xs) b there passes only =
    let here = only x (contains-here x xs) in
    let rest = λ (inside : Contains xs b). find-only t xs b inside passes
    (λ m within. only m (contains-later x xs m within)) in
    grind (arith, contains-cons x xs b there)

same-or-not : (a b : ℕ × ℕ) → (a ≡ b) ⊎ (a ≢ b)
same-or-not a b = grind arith

pub best-is : (xs : List (ℕ × ℕ)) (b : ℕ × ℕ) → IsBest xs b → best_slot xs ≡ Some b
best-is xs b best = find-only (λ a. list_all (goes_first a) xs) xs b best.there
    (all-of (goes_first b) xs (λ m there. grind (
      arith,
      nat_tests,
      same-or-not m b,
      best.first m there,
    )))
    (λ m there passes. grind (
      arith,
      nat_tests,
      same-or-not m b,
      best.first m there,
      of-all (goes_first m) xs passes b best.there,
    ))

-- the result of `best` of the slots
pub best-found : (xs : List (ℕ × ℕ)) (o : Option (ℕ × ℕ)) → (IsNone o ↔ (xs ≡ [])) →
    IfSome o (λ m. IsBest xs m) → o ≡ best_slot xs
best-found xs None none best = let empty : xs ≡ [] = none.0 refl in rw empty refl
best-found xs (Some m) none best = sym (best-is xs m best)

-- what `pop` of the slots leaves, given the place of the best message
pub popped : (xs ys : List (ℕ × ℕ)) (o : Option (ℕ × ℕ)) (place : ℕ) → (IsNone o ↔ (xs ≡ [])) →
    IfSome o (λ m. IsBest xs m) → IfSome o (λ m. ys ≡ without m.1 xs) →
    option_map (λ m. m.1) (best_slot xs) ≡ Some place → ys ≡ without place xs
popped xs ys None place none best others at = grind arith
popped xs ys (Some m) place none best others at = let is = best-is xs m best in grind arith
