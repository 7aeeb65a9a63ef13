-- Sums over the processes of a history, and counts of first operations.
use Rattle.std.proofs.Common.{◌≡◌, ◌≢◌, ℕ, ◌+◌, ◌≤◌, ◌<◌, zero, suc, Bool, List, [], ◌∷◌, length, take, get_or, Option, Some, None, Vec, inl, inr, refl, ◌∙◌, ap, subst, arith, if◌then◌else◌, slice_get, count_by, sum_by, add-one, take-take, Global}
use Rattle.std.proofs.lemmas.Bool.{cases_lt}
use Rattle.std.proofs.lemmas.List.{take_all}
use Rattle.std.proofs.lemmas.List.Sums.{count_by_more_no, count_by_more_yes, sum_by-take-le, sum_by_more}
use Rattle.std.proofs.lemmas.Option.{slice_get_within, slice_get-get_or}
use Rattle.mq_model.proofs.Places.{split}
use Rattle.histories.specs.declared.operation.Operation.{Operation}
use Rattle.histories.specs.Histories.{Histories}

-- the sum of the first n numbers of a sequence
abbrev pub total : (ℕ → ℕ) → ℕ → ℕ
total f zero = 0
total f (suc n) = total f n + f n

pub total-le : (f g : ℕ → ℕ) (n : ℕ) → ((i : ℕ) → i < n → f i ≤ g i) → total f n ≤ total g n
total-le f g zero each = omega arith
total-le f g (suc n) each =
    let before = total-le f g n (λ i lt. each i (omega (arith, lt))) in
    let here = each n (omega arith) in
    omega (arith, before, here)

-- one number grows by w at most, and no other does
pub total-more : (f g : ℕ → ℕ) (n k w : ℕ) → ((i : ℕ) → i ≢ k → g i ≤ f i) → g k ≤ f k + w →
    total g n ≤ total f n + w
total-more f g zero k w others here = omega arith
total-more f g (suc n) k w others here =
    grind (arith, cases_lt, total-le, total-more f g n k w others here)

-- one number grows by w at least, and no other falls
pub total-grows : (f g : ℕ → ℕ) (n k w : ℕ) → k < n → ((i : ℕ) → i ≢ k → f i ≤ g i) →
    f k + w ≤ g k → total f n + w ≤ total g n
total-grows f g zero k w within others here = let k : ⊥ = omega arith in absurd k
total-grows f g (suc n) k w within others here = elim (cases_lt k n) [
  | inl inside ↦
      let before = total-grows f g n k w inside others here in
      let last = others n (λ e. omega (arith, e, inside)) in
      omega (arith, before, last)
  | inr top ↦
      let e : k ≡ n = omega (arith, within, top) in
      let before = total-le f g n (λ i lt. others i (λ same. omega (arith, same, lt, e))) in
      let last : f n + w ≤ g n = subst (λ i. f i + w ≤ g i) e here in
      omega (arith, before, last)
]

-- a number of the operations of a process, if there is one
abbrev pub of_process : (Vec Operation Global → ℕ) → Option (Vec Operation Global) → ℕ
of_process g None = 0
of_process g (Some v) = g v

pub read : {A : Type 0} (xs : List A) (k : ℕ) (x : A) → slice_get xs k ≡ Some x →
    (k < length xs) × (get_or xs k x ≡ x)
read xs k x is = grind (arith, slice_get_within, slice_get-get_or)

pub no-more : {A : Type 0} (xs : List A) (k : ℕ) → slice_get xs k ≡ None → length xs ≤ k
no-more xs k none = elim (cases_lt k (length xs)) [
  | inl within ↦ absurd (there xs k none within)
  | inr past ↦ past
]
  where
    there : {A : Type 0} (xs : List A) (k : ℕ) → slice_get xs k ≡ None → k < length xs → ⊥
    there [] k none within = omega arith
    there (x ∷ xs) zero none within = let bad : Some x ≡ None = none in cc
    there (x ∷ xs) (suc k) none within = there xs k none (omega (arith, within))

total-list : (g : Vec Operation Global → ℕ) (histories : Histories) (n : ℕ) → n ≤ length histories →
    total (λ i. of_process g (slice_get histories i)) n ≡ sum_by g (take n histories)
total-list g histories zero within = refl
total-list g histories (suc n) within =
    let before = total-list g histories n (omega (arith, within)) in
    by (slice_get histories n) refl before
  where
    by : (o : Option (Vec Operation Global)) → slice_get histories n ≡ o →
        total (λ i. of_process g (slice_get histories i)) n ≡ sum_by g (take n histories) →
        total (λ i. of_process g (slice_get histories i)) n + of_process g o ≡
        sum_by g (take (suc n) histories)
    by None none before = let le = no-more histories n none in absurd (omega (arith, le, within))
    by (Some v) is before =
        let r = read histories n v is in
        let step : sum_by g (take (n + 1) histories) ≡ sum_by g (take n histories) + g v =
        sum_by_more g histories n v r.0 ∙ ap (λ (x : Vec Operation Global). sum_by g
        (take n histories) + g x) r.1 in
        rw (before, ← add-one, step) refl

-- the sum of a number of each process
pub total-sum : (g : Vec Operation Global → ℕ) (histories : Histories) →
    total (λ i. of_process g (slice_get histories i)) (length histories) ≡ sum_by g histories
total-sum g histories = total-list g histories (length histories) (omega arith) ∙ ap (sum_by g)
    (take_all (length histories) histories (omega arith))

-- counts of first operations ----------------------------------------------------------------------

pub count-le : (test : Operation → Bool) (xs : List Operation) (n : ℕ) →
    count_by test (take n xs) ≤ count_by test xs
count-le test xs n = sum_by-take-le (λ x. if test x then 1 else 0) xs n

pub count-more : (test : Operation → Bool) (xs : List Operation) (n : ℕ) (o : Operation) →
    slice_get xs n ≡ Some o →
    count_by test (take (n + 1) xs) ≡ count_by test (take n xs) + (if test o then 1 else 0)
count-more test xs n o is =
    let r = read xs n o is in
    split (test o)
    (λ yes. rw yes (count_by_more_yes test xs n o r.0 (ap test r.1 ∙ yes)))
    (λ no. let same = count_by_more_no test xs n o r.0 (ap test r.1 ∙ no) in
    rw no (omega (arith, same)))

pub count-fewer : (test : Operation → Bool) (xs : List Operation) (m n : ℕ) → m ≤ n →
    count_by test (take m xs) ≤ count_by test (take n xs)
count-fewer test xs m n le =
    let le' = count-le test (take n xs) m in
    subst (λ ys. count_by test ys ≤ count_by test (take n xs)) (take-take m n xs le) le'
