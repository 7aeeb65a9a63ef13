-- The first of the descriptor numbers that passes a test.
use Rattle.std.proofs.Common.{◌≡◌, ℕ, zero, suc, ◌+◌, ◌<◌, ◌≤◌, ◌==◌, Bool, true, false, Some, None, refl, arith, eqb-true}
use Rattle.std.specs.List.{find}
use Rattle.std.proofs.lemmas.Bool.{eqb-false}
use Rattle.mq_model.specs.Descriptors.{numbers_from, descriptor_numbers}
use Rattle.mq_model.proofs.Places.{split}

find-from : (t : ℕ → Bool) (low n d : ℕ) → low ≤ d → d < low + n → t d ≡ true →
    ((e : ℕ) → low ≤ e → e < d → t e ≡ false) → find t (numbers_from low n) ≡ Some d
find-from t low zero d le lt p before = absurd (omega arith)
find-from t low (suc n) d le lt p before =
    split (low == d)
    (λ here. let e : low ≡ d = eqb-true _ _ here in let passes : t low ≡ true = rw e p in
    rw (passes, e) refl)
    (λ later. let ne : low ≡ d → ⊥ = eqb-false _ _ later in
    let fails : t low ≡ false = before low (omega arith) (omega arith) in
    rw fails (find-from t (low + 1) n d (omega arith) (omega arith) p (λ e above below. before e
    (omega arith) below)))

find-none_from : (t : ℕ → Bool) (low n : ℕ) → ((e : ℕ) → low ≤ e → e < low + n → t e ≡ false) →
    find t (numbers_from low n) ≡ None
find-none_from t low zero none = refl
find-none_from t low (suc n) none =
    let fails : t low ≡ false = none low (omega arith) (omega arith) in
    rw fails (find-none_from t (low + 1) n (λ e above below. none e (omega arith) (omega arith)))

-- d is the first number that passes
pub first-Some : (t : ℕ → Bool) (d : ℕ) → d < 16 → t d ≡ true → ((e : ℕ) → e < d → t e ≡ false) →
    find t descriptor_numbers ≡ Some d
unfolding descriptor_numbers
first-Some t d lt passes before = find-from t 0 16 d (omega arith) (omega arith) passes
    (λ e above below. before e below)

-- none of them passes
pub first-None : (t : ℕ → Bool) → ((e : ℕ) → e < 16 → t e ≡ false) →
    find t descriptor_numbers ≡ None
unfolding descriptor_numbers
first-None t all = find-none_from t 0 16 (λ e above below. all e (omega arith))
