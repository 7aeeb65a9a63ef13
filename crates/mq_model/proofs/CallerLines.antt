-- The table of callers, line by line.
use Rattle.std.proofs.Common.{◌≡◌, ℕ, zero, suc, ◌+◌, ◌<◌, ◌≤◌, ◌==◌, Bool, List, [], ◌∷◌, length, Option, Some, None, is_some, if◌then◌else◌, refl, ap, arith, IfSome}
use Rattle.std.specs.List.{count_by}
use Rattle.std.proofs.lemmas.List.Sums.{sum_by-cons}
use Rattle.std.specs.Option.{option_map}
use Rattle.std.proofs.lemmas.Option.{slice_get_past}
use Rattle.mq_model.specs.declared.callers.OpenWait.{OpenWait}
use Rattle.mq_model.specs.declared.callers.Caller.{Caller}
use Rattle.mq_model.specs.declared.callers.WaitKind.{WaitKind}
use Rattle.mq_model.specs.Rows.{changed}
use Rattle.mq_model.specs.Callers.{wait_in, answer_in, pending_in, waits_count, IsFirstWait, with_wait, with_answer}
use Rattle.mq_model.proofs.Rows.{length-changed, read-same, read-set}

abbrev one_if : Bool → ℕ
one_if b = if b then 1 else 0

count : List Caller → ℕ
count callers = count_by (λ o. is_some o.wait) callers

count-cons : (o : Caller) (callers : List Caller) →
    count (o ∷ callers) ≡ one_if (is_some o.wait) + count callers
unfolding count
count-cons o callers = sum_by-cons (λ (o : Caller). one_if (is_some o.wait)) o callers

count-set : (callers : List Caller) (p : ℕ) (w : OpenWait) (f : Caller → Caller) →
    ((o : Caller) → (f o).wait ≡ Some w) → p < length callers → wait_in callers p ≡ None →
    count (changed f callers p) ≡ count callers + 1
unfolding wait_in
count-set [] p w f sets lt none = absurd (omega arith)
count-set (o ∷ callers) zero w f sets lt none = let new : one_if (is_some (f o).wait) ≡ 1 =
    ap (λ (v : Option OpenWait). one_if (is_some v)) (sets o) in let old : one_if (is_some o.wait) ≡
    0 = ap (λ (v : Option OpenWait). one_if (is_some v)) none in
    omega (arith, new, old, count-cons (f o) callers, count-cons o callers)
count-set (o ∷ callers) (suc p) w f sets lt none = let rest = count-set callers p w f sets
    (omega arith) none in omega (
      arith,
      rest,
      count-cons o callers,
      count-cons o
          (changed f callers p),
    )

count-same : (callers : List Caller) (p : ℕ) (f : Caller → Caller) →
    ((o : Caller) → (f o).wait ≡ o.wait) → count (changed f callers p) ≡ count callers
count-same [] p f same = refl
count-same (o ∷ callers) zero f same = let new : one_if (is_some (f o).wait) ≡
    one_if (is_some o.wait) = ap (λ (v : Option OpenWait). one_if (is_some v)) (same o) in
    omega (arith, new, count-cons (f o) callers, count-cons o callers)
count-same (o ∷ callers) (suc p) f same = let rest = count-same callers p f same in
    omega (arith, rest, count-cons o callers, count-cons o (changed f callers p))

pub waits_count-with_wait : (callers : List Caller) (p : ℕ) (w : OpenWait) → p < length callers →
    wait_in callers p ≡ None → waits_count (with_wait callers p (Some w)) ≡ waits_count callers + 1
unfolding waits_count with_wait count
waits_count-with_wait callers p w lt none = count-set callers p w _ (λ o. refl) lt none

pub waits_count-with_answer : (callers : List Caller) (p by : ℕ) →
    waits_count (with_answer callers p by) ≡ waits_count callers
unfolding waits_count with_answer count
waits_count-with_answer callers p by = count-same callers p _ (λ o. refl)

pub length-with_wait : (callers : List Caller) (p : ℕ) (w : Option OpenWait) →
    length (with_wait callers p w) ≡ length callers
unfolding with_wait
length-with_wait callers p w = length-changed _ callers p

pub length-with_answer : (callers : List Caller) (p by : ℕ) →
    length (with_answer callers p by) ≡ length callers
unfolding with_answer
length-with_answer callers p by = length-changed _ callers p

pub wait_in-with_wait : (callers : List Caller) (p : ℕ) (w : Option OpenWait) (k : ℕ) →
    p < length callers →
    wait_in (with_wait callers p w) k ≡ (if p == k then w else wait_in callers k)
unfolding wait_in with_wait
wait_in-with_wait callers p w k lt = read-set (λ o. o.wait) _ callers p k w lt (λ o. refl)

pub wait_in-with_answer : (callers : List Caller) (p by k : ℕ) →
    wait_in (with_answer callers p by) k ≡ wait_in callers k
unfolding wait_in with_answer
wait_in-with_answer callers p by k = read-same (λ o. o.wait) _ callers p k (λ o. refl)

pub answer_in-with_wait : (callers : List Caller) (p : ℕ) (w : Option OpenWait) (k : ℕ) →
    p < length callers → answer_in (with_wait callers p w) k ≡
    (if p == k then None else answer_in callers k)
unfolding answer_in with_wait
answer_in-with_wait callers p w k lt = read-set (λ o. o.answer) _ callers p k None lt (λ o. refl)

pub answer_in-with_answer : (callers : List Caller) (p by k : ℕ) → p < length callers →
    answer_in (with_answer callers p by) k ≡ (if p == k then Some by else answer_in callers k)
unfolding answer_in with_answer
answer_in-with_answer callers p by k lt = read-set (λ o. o.answer) _ callers p k
    (Some by) lt (λ o. refl)

-- what a pass over the first i callers finds
abbrev pub IsFirstBelow : List Caller → ℕ → WaitKind → ℕ → Option (ℕ × ℕ) → Type 0
IsFirstBelow callers q kind i None = (k : ℕ) → k < i → pending_in callers k q kind ≡ None
IsFirstBelow callers q kind i (Some x) = (pending_in callers x.0 q kind ≡ Some x.1) ×
    ((k w : ℕ) → k < i → pending_in callers k q kind ≡ Some w → x.1 ≤ w)

-- there is no caller past the end
pub pending_in-past : (callers : List Caller) (k q : ℕ) (kind : WaitKind) → length callers ≤ k →
    pending_in callers k q kind ≡ None
unfolding pending_in wait_in
pending_in-past callers k q kind past = rw (slice_get_past callers k past) refl

pub first-none : (callers : List Caller) (q : ℕ) (kind : WaitKind) (i : ℕ) (o : Option (ℕ × ℕ)) →
    IsFirstBelow callers q kind i o → length callers ≤ i → o ≡ None → (p : ℕ) →
    pending_in callers p q kind ≡ None
first-none callers q kind i o first all e = grind (arith, pending_in-past)

pub first-some : (callers : List Caller) (q : ℕ) (kind : WaitKind) (i : ℕ) (o : Option (ℕ × ℕ)) →
    IsFirstBelow callers q kind i o → length callers ≤ i →
    IfSome o (λ x. IsFirstWait callers q kind x.0 x.1)
first-some callers q kind i o first all = grind (arith, pending_in-past)

pub no-wait : (o : Option OpenWait) → option_map (λ w. w.place) o ≡ None → o ≡ None
no-wait o e = grind arith

count-unset : (callers : List Caller) (p : ℕ) (w : OpenWait) (f : Caller → Caller) →
    ((o : Caller) → (f o).wait ≡ None) → wait_in callers p ≡ Some w →
    count (changed f callers p) + 1 ≡ count callers
unfolding wait_in
count-unset [] p w f unsets is = absurd (cc)
count-unset (o ∷ callers) zero w f unsets is = let new : one_if (is_some (f o).wait) ≡ 0 =
    ap (λ (v : Option OpenWait). one_if (is_some v)) (unsets o) in let old : one_if
    (is_some o.wait) ≡ 1 = ap (λ (v : Option OpenWait). one_if (is_some v)) is in
    omega (arith, new, old, count-cons (f o) callers, count-cons o callers)
count-unset (o ∷ callers) (suc p) w f unsets is = let rest = count-unset callers p w f unsets is in
    omega (arith, rest, count-cons o callers, count-cons o (changed f callers p))

pub waits_count-no_wait : (callers : List Caller) (p : ℕ) (w : OpenWait) →
    wait_in callers p ≡ Some w → waits_count (with_wait callers p None) + 1 ≡ waits_count callers
unfolding waits_count with_wait count
waits_count-no_wait callers p w is = count-unset callers p w _ (λ o. refl) is
