-- How many waits are open, counted in the table of callers.
use Rattle.std.proofs.Common.{◌≡◌, ℕ, zero, suc, ◌+◌, ◌-◌, ◌≤◌, ◌==◌, Bool, false, List, [], ◌∷◌, length, cond, Option, None, is_some, refl, sym, ◌∙◌, ap, arith, ne_eqb}
use Rattle.std.specs.List.{All, count_by}
use Rattle.std.specs.Option.{option_map}
use Rattle.std.proofs.lemmas.Bool.{and_parts}
use Rattle.std.proofs.lemmas.List.Elements.{All-nil, All-cons, All-head, All-tail, All-weaker}
use Rattle.std.proofs.lemmas.List.Sums.{sum_by-cons}
use Rattle.mq_model.specs.Limits.{most_callers}
use Rattle.mq_model.specs.Record.{Record, Past}
use Rattle.mq_model.specs.Descriptors.{numbers_from}
use Rattle.mq_model.specs.Waits.{open_wait}
use Rattle.mq_model.specs.Legality.{Legal}
use Rattle.mq_model.specs.Bounds.{open_waits}
use Rattle.mq_model.specs.Callers.{wait_in, waits_count}
use Rattle.mq_model.specs.Callers.{CallersMirror}
use Rattle.mq_model.specs.declared.callers.OpenWait.{OpenWait}
use Rattle.mq_model.specs.declared.callers.Caller.{Caller}

abbrev one_if : Bool → ℕ
one_if b = cond b 1 0

count-cons : (f : ℕ → Bool) (x : ℕ) (xs : List ℕ) →
    count_by f (x ∷ xs) ≡ one_if (f x) + count_by f xs
count-cons f x xs = sum_by-cons (λ y. one_if (f y)) x xs

-- a caller without a record has no open wait
no-record : (past : Past) (k : ℕ) → All (λ (r : Record). (r.entry.process == k) ≡ false) past →
    open_wait past k ≡ None
no-record [] k all = refl
no-record (r ∷ past) k all = grind (
  arith,
  All-head,
  All-tail,
  no-record past k
      (All-tail (λ (r : Record). (r.entry.process == k) ≡ false) r past all),
)

-- if f says of each index whether the caller there waits, as many wait as there are indices for
-- which f is true
count-lines : (f : ℕ → Bool) (callers : List Caller) (k : ℕ) →
    ((i : ℕ) → is_some (wait_in callers i) ≡ f (k + i)) →
    waits_count callers ≡ count_by f (numbers_from k (length callers))
unfolding waits_count wait_in
count-lines f [] k same = refl
count-lines f (o ∷ callers) k same =
    let here : is_some o.wait ≡ f k = same 0 ∙ ap f (omega arith) in
    let rest = count-lines f callers (k + 1) (λ i. same (suc i) ∙ ap f (omega arith)) in
    let one : one_if (is_some o.wait) ≡ one_if (f k) = ap one_if here in
    let lines : count_by (λ (x : Caller). is_some x.wait) (o ∷ callers) ≡
    one_if (is_some o.wait) + count_by (λ (x : Caller). is_some x.wait) callers =
    sum_by-cons (λ (x : Caller). one_if (is_some x.wait)) o callers in
    let places = count-cons f k (numbers_from (k + 1) (length callers)) in
    omega (arith, one, rest, lines, places)

count-none : (f : ℕ → Bool) (low n : ℕ) → ((i : ℕ) → low ≤ i → f i ≡ false) →
    count_by f (numbers_from low n) ≡ 0
count-none f low zero none = refl
count-none f low (suc n) none =
    let here : one_if (f low) ≡ 0 = ap one_if (none low (omega arith)) in
    let rest = count-none f (low + 1) n (λ i le. none i (omega (arith, le))) in
    let both = count-cons f low (numbers_from (low + 1) n) in
    omega (arith, here, rest, both)

-- places after the last of which f is true count for nothing
count-more : (f : ℕ → Bool) (low n m : ℕ) → ((i : ℕ) → low + n ≤ i → f i ≡ false) →
    count_by f (numbers_from low (n + m)) ≡ count_by f (numbers_from low n)
count-more f low zero m none = let same : 0 + m ≡ m = omega arith in
    ap (λ k. count_by f (numbers_from low k)) same ∙ count-none f low m
    (λ i le. none i (omega (arith, le)))
count-more f low (suc n) m none =
    let rest = count-more f (low + 1) n m (λ i le. none i (omega (arith, le))) in
    let next : suc n + m ≡ suc (n + m) = omega arith in
    ap (λ k. count_by f (numbers_from low k)) next ∙ count-cons f low
    (numbers_from (low + 1) (n + m)) ∙ ap (λ k. one_if (f low) + k) rest ∙
    sym (count-cons f low (numbers_from (low + 1) n))

kept-some : (o : Option OpenWait) → is_some (option_map (λ w. w.place) o) ≡ is_some o
kept-some o = grind arith

-- each process of a legal journal has a number from 1 on
from-one : (past : Past) → Legal past → All (λ (r : Record). 1 ≤ r.entry.process) past
from-one [] legal = All-nil (λ (r : Record). 1 ≤ r.entry.process)
from-one (r ∷ past) legal = grind (arith, All-cons, and_parts, from-one past legal.0)

-- the table of the first n callers counts the open waits of the first m, if no other caller has a
-- record
counted : (past : Past) (callers : List Caller) (n m : ℕ) → Legal past →
    CallersMirror past callers → length callers ≡ n + 1 → n ≤ m →
    All (λ (r : Record). r.entry.process ≤ n) past →
    waits_count callers ≡ count_by (λ p. is_some (open_wait past p)) (numbers_from 1 m)
counted past callers n m legal mirror count few all =
    let f : ℕ → Bool = λ p. is_some (open_wait past p) in
    let same : (i : ℕ) →
    is_some (wait_in callers i) ≡ f i = λ i. sym (kept-some (wait_in callers i)) ∙
    ap is_some (mirror.waits i) in
    let lines : waits_count callers ≡ count_by f (numbers_from 0 (length callers)) =
    count-lines f callers 0 (λ i. same i ∙ ap f (omega arith)) in
    let zeroth : f 0 ≡ false =
    ap is_some (no-record past 0 (All-weaker (λ (r : Record). 1 ≤ r.entry.process)
    (λ (r : Record). (r.entry.process == 0) ≡ false) (λ r le. ne_eqb r.entry.process 0
    (λ z. let bad : 1 ≤ 0 = rw z at le in omega (arith, bad))) past (from-one past legal))) in
    let none : (i : ℕ) → 1 + n ≤ i →
    f i ≡ false =
    λ i le. ap is_some (no-record past i (All-weaker (λ (r : Record). r.entry.process ≤ n)
    (λ (r : Record). (r.entry.process == i) ≡ false) (λ r most. ne_eqb r.entry.process i
    (λ e. omega (arith, le, most, e))) past all)) in
    let whole : count_by f (numbers_from 1 (n + (m - n))) ≡ count_by f (numbers_from 1 n) =
    count-more f 1 n (m - n) none in
    let all_of : n + (m - n) ≡ m = omega (arith, few) in
    let first : one_if (f 0) ≡ 0 = ap one_if zeroth in
    let long : length callers ≡ suc n = omega (arith, count) in
    let from_zero : waits_count callers ≡ count_by f (numbers_from 0 (suc n)) =
    lines ∙ ap (λ m. count_by f (numbers_from 0 m)) long in
    let parts : count_by f (numbers_from 0 (suc n)) ≡ one_if (f 0) + count_by f (numbers_from 1 n) =
    count-cons f 0 (numbers_from 1 n) in
    let most : count_by f (numbers_from 1 (n + (m - n))) ≡ count_by f (numbers_from 1 m) =
    ap (λ m. count_by f (numbers_from 1 m)) all_of in
    omega (arith, from_zero, parts, first, whole, most)

-- the table of the first n callers counts the open waits, if no other caller has a record
pub open_waits-counted : (past : Past) (callers : List Caller) (n : ℕ) → Legal past →
    CallersMirror past callers → length callers ≡ n + 1 → n ≤ most_callers →
    All (λ (r : Record). r.entry.process ≤ n) past → waits_count callers ≡ open_waits past
unfolding open_waits
open_waits-counted past callers n legal mirror count few all = counted past callers n most_callers
    legal mirror count few all
