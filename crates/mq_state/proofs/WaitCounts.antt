-- The numbers of those that wait on a queue.
use Rattle.std.proofs.Common.{◌≡◌, ℕ, suc, ◌+◌, false, Bool, List, [], ◌∷◌, length, cond, None, refl, arith}
use Rattle.std.proofs.lemmas.List.Sums.{sum_by-cons}
use Rattle.mq_model.specs.Callers.{wait_in, pending_in}
use Rattle.mq_model.specs.declared.callers.Caller.{Caller}
use Rattle.mq_model.specs.declared.callers.WaitKind.{WaitKind}
use Rattle.mq_state.specs.WaitCounts.{waits_on, wait_count}

abbrev one_if : Bool → ℕ
one_if b = cond b 1 0

count-cons : (q : ℕ) (x : Caller) (callers : List Caller) →
    wait_count q (x ∷ callers) ≡ one_if (waits_on q x.wait) + wait_count q callers
unfolding wait_count
count-cons q x callers = sum_by-cons (λ (x : Caller). one_if (waits_on q x.wait)) x callers

-- tables in which the same callers wait on a queue
pub count-same : (q : ℕ) (xs ys : List Caller) → length xs ≡ length ys →
    ((p : ℕ) → waits_on q (wait_in xs p) ≡ waits_on q (wait_in ys p)) →
    wait_count q xs ≡ wait_count q ys
unfolding wait_in
count-same q (x ∷ xs) (y ∷ ys) long same = rw (
  count-cons q x xs,
  count-cons q y ys,
  same 0,
  count-same q xs ys (omega arith) (λ p. same (suc p)),
) refl
count-same q [] [] long same = refl
count-same q xs ys long same = absurd (omega arith)

-- no caller waits
pub count-none : (q : ℕ) (callers : List Caller) →
    ((p : ℕ) → waits_on q (wait_in callers p) ≡ false) → wait_count q callers ≡ 0
unfolding wait_in wait_count
count-none q [] none = refl
count-none q (x ∷ callers) none = rw (
  count-cons q x callers,
  none 0,
  count-none q callers
      (λ p. none (suc p)),
) refl

-- if the number is 0, nobody waits
pub nobody-waits : (callers : List Caller) (q : ℕ) → wait_count q callers ≡ 0 → (p : ℕ) →
    waits_on q (wait_in callers p) ≡ false
unfolding wait_in
nobody-waits [] q none p = refl
nobody-waits (x ∷ callers) q none p = grind (arith, count-cons q x callers, nobody-waits callers q)

-- a caller that does not wait on a queue is not found waiting there
pub pending-off : (callers : List Caller) (p q : ℕ) (kind : WaitKind) →
    waits_on q (wait_in callers p) ≡ false → pending_in callers p q kind ≡ None
unfolding pending_in
pending-off callers p q kind off = grind arith
