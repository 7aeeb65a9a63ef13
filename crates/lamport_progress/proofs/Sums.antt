-- Sums over the processes when one of them moves to another point.
use Rattle.std.proofs.Common.{◌<◌, ◌≤◌, ◌≢◌, ◌+◌, ◌*◌, refl, ℕ, zero, suc, List, [], ◌∷◌, length, get_or, ap, ◌≡◌, arith}
use Rattle.std.specs.List.{sum_by}
use Rattle.std.proofs.lemmas.List.{get_or_past}
use Rattle.std.proofs.Math.ListN.{set}
use Rattle.std.proofs.lemmas.List.Sums.{sum_by-cons, sum_by-le-sum_by, get_or-le-sum_by}
use Rattle.lamport_core.specs.State.{IsProcess, of_process, with_process}
use Rattle.lamport_core.specs.declared.At.{At}
use Rattle.lamport_core.specs.declared.At.TheVariants.{Rest}

set_less : (f g : At → ℕ) (ps : List At) (k : ℕ) (Q : At) → k < length ps → ((q : At) → g q ≤ f q) →
    g Q < f (get_or ps k Rest) → sum_by g (set ps k Q) < sum_by f ps
set_less f g [] k Q lt h l = absurd (omega arith)
set_less f g (p ∷ ps) zero Q lt h l = omega (
  arith,
  sum_by-cons g Q ps,
  sum_by-cons f p ps,
  sum_by-le-sum_by g f ps h,
  l,
)
set_less f g (p ∷ ps) (suc k) Q lt h l = omega (
  arith,
  sum_by-cons g p (set ps k Q),
  sum_by-cons f p ps,
  h p,
  set_less f g ps k Q (omega arith) h l,
)

-- if no term increases, and that of the process that moves decreases, the sum decreases
pub total_less : (f g : At → ℕ) (ps : List At) (i : ℕ) (Q : At) → IsProcess (length ps) i →
    ((q : At) → g q ≤ f q) → g Q < f (of_process Rest ps i) →
    sum_by g (with_process ps i Q) < sum_by f ps
total_less f g ps i Q p h l = grind (arith, set_less)

pub total_le : (f : At → ℕ) (m : ℕ) (ps : List At) → ((q : At) → f q ≤ m) →
    sum_by f ps ≤ length ps * m
total_le f m [] h = omega arith
total_le f m (p ∷ ps) h = omega (arith, sum_by-cons f p ps, h p, total_le f m ps h)

total_le_at : (f : At → ℕ) (m : ℕ) (ps : List At) → ((k : ℕ) → f (get_or ps k Rest) ≤ m) →
    sum_by f ps ≤ length ps * m
total_le_at f m [] h = omega arith
total_le_at f m (p ∷ ps) h =
    let first : f p ≤ m = h zero in
    omega (arith, sum_by-cons f p ps, total_le_at f m ps (λ k. h (suc k)))

-- if one term is known, and no term is more than m
one_less : (f : At → ℕ) (m : ℕ) (ps : List At) (k : ℕ) → k < length ps →
    ((j : ℕ) → f (get_or ps j Rest) ≤ m) → sum_by f ps + m ≤ length ps * m + f (get_or ps k Rest)
one_less f m [] k lt h = absurd (omega arith)
one_less f m (p ∷ ps) zero lt h =
    omega (arith, sum_by-cons f p ps, total_le_at f m ps (λ j. h (suc j)))
one_less f m (p ∷ ps) (suc k) lt h =
    let first : f p ≤ m = h zero in
    omega (arith, sum_by-cons f p ps, one_less f m ps k (omega arith) (λ j. h (suc j)))

-- the same if two are known
pub two_less : (f : At → ℕ) (m : ℕ) (ps : List At) (j k : ℕ) → j < length ps → k < length ps →
    j ≢ k → ((l : ℕ) → f (get_or ps l Rest) ≤ m) →
    sum_by f ps + 2 * m ≤ length ps * m + f (get_or ps j Rest) + f (get_or ps k Rest)
two_less f m [] j k a b ne h = absurd (omega arith)
two_less f m (p ∷ ps) zero zero a b ne h = absurd (ne refl)
two_less f m (p ∷ ps) zero (suc k) a b ne h =
    omega (arith, sum_by-cons f p ps, one_less f m ps k (omega arith) (λ l. h (suc l)))
two_less f m (p ∷ ps) (suc j) zero a b ne h =
    omega (arith, sum_by-cons f p ps, one_less f m ps j (omega arith) (λ l. h (suc l)))
two_less f m (p ∷ ps) (suc j) (suc k) a b ne h =
    let first : f p ≤ m = h zero in
    omega (
      arith,
      sum_by-cons f p ps,
      two_less f m ps j k (omega arith) (omega arith)
          (λ e. ne (ap suc e)) (λ l. h (suc l)),
    )

set_at_most : (f : At → ℕ) (ps : List At) (k : ℕ) (Q : At) → k < length ps →
    f Q ≤ f (get_or ps k Rest) → sum_by f (set ps k Q) ≤ sum_by f ps
set_at_most f [] k Q lt l = absurd (omega arith)
set_at_most f (p ∷ ps) zero Q lt l = omega (arith, sum_by-cons f Q ps, sum_by-cons f p ps, l)
set_at_most f (p ∷ ps) (suc k) Q lt l = omega (
  arith,
  sum_by-cons f p (set ps k Q),
  sum_by-cons f p ps,
  set_at_most f ps k Q (omega arith) l,
)

-- if the term of the process that moves does not increase, the sum does not
pub total_at_most : (f : At → ℕ) (ps : List At) (i : ℕ) (Q : At) → IsProcess (length ps) i →
    f Q ≤ f (of_process Rest ps i) → sum_by f (with_process ps i Q) ≤ sum_by f ps
total_at_most f ps i Q p l = grind (arith, set_at_most)

-- the term of each number, whether or not it is that of a process, is at most the sum
pub term-le-total : (f : At → ℕ) (ps : List At) (i : ℕ) → f Rest ≡ 0 →
    f (of_process Rest ps i) ≤ sum_by f ps
term-le-total f ps i e = grind (arith, get_or-le-sum_by, get_or_past)
