-- The tables in which the ends of calls are noted.
use Rattle.std.proofs.lemmas.Grind.{common_steps}
use Rattle.std.proofs.Common.{◌≡◌, ℕ, zero, suc, ◌+◌, ◌<◌, Bool, true, false, ◌||◌, max, List, [], ◌∷◌, length, Some, get_or, replicate, slice_get, slice_set, refl, leb-true, add-one, sym, ap, subst, arith, eqb-true}
use Rattle.std.proofs.lemmas.Bool.{and_parts, eqb-false}
use Rattle.mq_model.proofs.Places.{split}
use Rattle.histories.specs.Histories.{is_pending}
use Rattle.histories.specs.declared.operation.Operation.{Operation}
use Rattle.history_judge.specs.Processes.{AreOfProcesses, is_process}
use Rattle.history_judge.specs.WellFormed.{fault_at, fault_behind, has_pending, latest}
use Rattle.history_judge.specs.declared.line.Called.{Called}

-- the table has the latest of these times of each process, for the first n calls
pub record AreLatest (calls : List Called) (n : ℕ) (moment : Operation → ℕ)
    (table : List ℕ) : Type 0 where
  pub count : length table ≡ 33
  pub each : (p : ℕ) → p < 33 → get_or table p 0 ≡ latest moment calls p n

-- the tables have the latest times of each process and whether a call of it had not returned, for
-- the first n calls
pub record AreNoted (calls : List Called) (n : ℕ) (begins ends : List ℕ)
    (pending : List Bool) : Type 0 where
  pub begun : AreLatest calls n (λ o. o.begin) begins
  pub ended : AreLatest calls n (λ o. o.end) ends
  pub same : length pending ≡ 33
  pub pends : (p : ℕ) → p < 33 → get_or pending p false ≡ has_pending calls p n

get-other : {A : Type 0} (xs : List A) (i j : ℕ) (a d : A) → (j ≡ i → ⊥) →
    get_or (slice_set xs i a) j d ≡ get_or xs j d
get-other (x ∷ xs) zero zero a d ne = absurd (ne refl)
get-other (x ∷ xs) (suc i) (suc j) a d ne = get-other xs i j a d (λ e. ne (ap (λ (n : ℕ). suc n) e))
get-other _ _ _ a d ne = refl

get-same : {A : Type 0} (xs : List A) (i : ℕ) (a d : A) → i < length xs →
    get_or (slice_set xs i a) i d ≡ a
get-same [] i a d below = absurd (omega arith)
get-same (x ∷ xs) zero a d below = refl
get-same (x ∷ xs) (suc i) a d below = get-same xs i a d (omega arith)

length-set : {A : Type 0} (xs : List A) (i : ℕ) (a : A) → length (slice_set xs i a) ≡ length xs
length-set (x ∷ xs) (suc i) a = ap (λ (n : ℕ). suc n) (length-set xs i a)
length-set _ _ a = refl

pends-next : (calls : List Called) (n : ℕ) (c : Called) (pending : List Bool) (pends : Bool) →
    slice_get calls n ≡ Some c → c.process < 33 → length pending ≡ 33 →
    ((p : ℕ) → p < 33 → get_or pending p false ≡ has_pending calls p n) →
    pends ≡ (get_or pending c.process false || is_pending c.operation.outcome) →
    (p : ℕ) → p < 33 → get_or (slice_set pending c.process pends) p false ≡
    has_pending calls p (suc n)
pends-next calls n c pending pends is few same before pends_is p below =
    grind (arith, eqb-true, get-same, eqb-false, get-other)

noted : (calls : List Called) (n : ℕ) (c : Called) (begins ends : List ℕ) (pending : List Bool)
    (begin end : ℕ) (pends : Bool) → slice_get calls n ≡ Some c → c.process < 33 →
    AreNoted calls n begins ends pending →
    begin ≡ max (get_or begins c.process 0) c.operation.begin →
    end ≡ max (get_or ends c.process 0) c.operation.end →
    pends ≡ (get_or pending c.process false || is_pending c.operation.outcome) →
    AreNoted calls (suc n) (slice_set begins c.process begin) (slice_set ends c.process end)
    (slice_set pending c.process pends)
noted calls n c begins ends pending begin end pends is few before begin_is end_is pends_is =
    grind (arith, common_steps, length-set, pends-next)

one-each : {A : Type 0} (d : A) (n p : ℕ) → get_or (replicate n d) p d ≡ d
one-each d (suc n) (suc p) = one-each d n p
one-each d _ _ = refl

-- nothing is noted yet
pub zeros : (p : ℕ) → p < 33 → ◌≡◌ {A = ℕ} (get_or (replicate 33 0) p 0) 0
zeros p below = one-each 0 33 p

pub falses : (p : ℕ) → p < 33 → get_or (replicate 33 false) p false ≡ false
falses p below = one-each false 33 p

pub noted-next : (calls : List Called) (n : ℕ) (c : Called) (begins ends : List ℕ)
    (pending : List Bool) (begin end : ℕ) (returned : Bool) → slice_get calls n ≡ Some c →
    c.process < 33 →
    AreNoted calls n begins ends pending →
    begin ≡ max (get_or begins c.process 0) c.operation.begin →
    end ≡ max (get_or ends c.process 0) c.operation.end →
    returned ≡ is_pending c.operation.outcome →
    AreNoted calls (n + 1) (slice_set begins c.process begin) (slice_set ends c.process end)
    (slice_set pending c.process (get_or pending c.process false || returned))
noted-next calls n c begins ends pending begin end returned is below before begin_is
    end_is returned_is =
    let pends = get_or pending c.process false || returned in
    let next = noted calls n c begins ends pending begin end pends is below before begin_is end_is
    (ap (λ (b : Bool). get_or pending c.process false || b) returned_is) in
    subst (λ (k : ℕ). AreNoted calls k (slice_set begins c.process begin)
    (slice_set ends c.process end) (slice_set pending c.process pends)) (sym (add-one n)) next

-- a process of a call is one of 33
pub few : (calls : List Called) (n : ℕ) (c : Called) → AreOfProcesses calls →
    slice_get calls n ≡ Some c → c.process < 33
few [] n c all is = cc
few (d ∷ calls) zero c all is = grind (arith, and_parts, leb-true)
few (d ∷ calls) (suc n) c all is =
    split (is_process d.process)
    (λ t. let rest : AreOfProcesses calls = rw t at all in few calls n c rest is)
    (λ f. let bad : false ≡ true = rw f at all in absurd (cc))

-- what the tables say of a call
pub latest-of : (calls : List Called) (n : ℕ) (c : Called) (begins ends : List ℕ)
    (pending : List Bool) → slice_get calls n ≡ Some c → c.process < 33 →
    AreNoted calls n begins ends pending →
    fault_at calls n ≡ fault_behind (get_or pending c.process false)
    (record { begin = get_or begins c.process 0; end = get_or ends c.process 0 }) c
latest-of calls n c begins ends pending is below noted = grind (arith, noted)
