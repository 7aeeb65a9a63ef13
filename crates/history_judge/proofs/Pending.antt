-- Histories in which no call has returned.
use Rattle.std.proofs.Common.{◌≡◌, ℕ, ◌+◌, ◌<◌, arith, ◌==◌, Bool, true, false, zero, suc, List, [], ◌∷◌, map, Some, Vec, is_none, slice_get, if◌then◌else◌, refl, ap, ◌∙◌, length, Global}
use Rattle.std.specs.List.{list_all}
use Rattle.histories.specs.declared.operation.Operation.{Operation}
use Rattle.histories.specs.declared.operation.Outcome.{Outcome}
use Rattle.histories.specs.Histories.{Histories, are_through, is_complete, is_pending, is_through}
use Rattle.history_judge.specs.Seen.{Seen, seen}
use Rattle.history_judge.specs.Text.{written_reply}
use Rattle.history_judge.specs.Processes.{operations_of}
use Rattle.history_judge.specs.Descriptors.{Numbers, no_numbers, numbers_after, own_call, own_outcome, renamed}
use Rattle.history_judge.specs.Fronts.{AreReturnsOf, Return, returns_from}
use Rattle.std.specs.List.{sum_by}
use Rattle.std.proofs.lemmas.List.Sorted.{sum_by-IsPermutation}
use Rattle.std.proofs.lemmas.List.Sums.{sum_by-cons}
use Rattle.history_judge.specs.Verdicts.{AreHistoriesOf, are_pending}
use Rattle.history_judge.specs.declared.line.Called.{Called}
use Rattle.std.proofs.lemmas.Bool.{and_parts, and_from}

abbrev all : List Seen → Bool
all xs = list_all (λ s. is_none s.reply) xs

-- those of a process
one-of : (own : Bool) (o : Operation) (operations : List Operation) →
    is_none (written_reply o.outcome) ≡ true → all (map seen operations) ≡ true →
    all (map seen (if own then o ∷ operations else operations)) ≡ true
one-of own o operations is rest = grind (arith, and_from)

of-process : (p : ℕ) (calls : List Called) → are_pending calls ≡ true →
    all (map seen (operations_of p calls)) ≡ true
of-process p [] pending = refl
of-process p (c ∷ calls) pending =
    let parts = and_parts (is_none (written_reply c.operation.outcome))
    (are_pending calls) pending in
    one-of (c.process == p) c.operation (operations_of p calls) parts.0 (of-process p calls parts.1)

-- by own numbers
own-pending : (numbers : Numbers) (outcome : Outcome) →
    is_none (written_reply (own_outcome numbers outcome)) ≡ is_none (written_reply outcome)
own-pending numbers outcome = grind arith

of-renamed : (numbers : Numbers) (operations : List Operation) → all (map seen operations) ≡ true →
    all (map seen (renamed numbers operations)) ≡ true
of-renamed numbers [] pending = refl
of-renamed numbers (o ∷ operations) pending =
    let parts = and_parts (is_none (written_reply o.outcome)) (all (map seen operations)) pending in
    let after = numbers_after numbers (own_call numbers o.call) o.outcome in
    and_from (is_none (written_reply (own_outcome numbers o.outcome)))
    (all (map seen (renamed after operations)))
    (own-pending numbers o.outcome ∙ parts.0) (of-renamed after operations parts.1)

-- none is left to be completed
pending-of : (outcome : Outcome) → is_none (written_reply outcome) ≡ true →
    is_pending outcome ≡ true
pending-of outcome e = grind arith

through : (operations : List Operation) (k : ℕ) → all (map seen operations) ≡ true →
    is_through (slice_get operations k) ≡ true
through [] k pending = refl
through (o ∷ operations) zero pending = pending-of o.outcome
    (and_parts (is_none (written_reply o.outcome)) (all (map seen operations)) pending).0
through (o ∷ operations) (suc k) pending = through operations k
    (and_parts (is_none (written_reply o.outcome)) (all (map seen operations)) pending).1

through-at : (histories : Histories) →
    ((index : ℕ) (operations : Vec Operation Global) → slice_get histories index ≡ Some operations →
    all (map seen operations.items) ≡ true) →
    (n : ℕ) → are_through histories [] n ≡ true
through-at histories each zero = refl
through-at histories each (suc n) = grind (arith, through, and_from, through-at histories each n)

-- if not everything is complete before the first record, a call has returned
pub not-pending : (calls : List Called) (histories : Histories) → AreHistoriesOf calls histories →
    is_complete histories [] ≡ false → are_pending calls ≡ false
not-pending calls histories are not_complete =
    let goes : (b : Bool) → are_pending calls ≡ b → b ≡ false =
    λ (b : Bool). elim b as (λ b. are_pending calls ≡ b → b ≡ false) [
      | false ↦ (λ e. refl)
      | true ↦ (λ e.
          let complete : is_complete histories [] ≡ true =
          through-at histories
          (λ index operations is. ap all (are.each index operations is) ∙ of-renamed no_numbers
          (operations_of (index + 1) calls) (of-process (index + 1) calls e))
          (length histories) in
          let k : ⊥ = cc in absurd k)
    ]
    in
    goes (are_pending calls) refl

none-of : (outcome : Outcome) → is_pending outcome ≡ true → is_none (written_reply outcome) ≡ true
none-of outcome e = grind arith

return-from : (index : ℕ) (calls : List Called) → are_pending calls ≡ false →
    0 < length (returns_from index calls)
return-from index [] is = absurd (cc)
return-from index (c ∷ calls) is = grind (arith, pending-of, none-of, return-from (index + 1) calls)

count-length : (xs : List Return) → sum_by (λ x. 1) xs ≡ length xs
count-length [] = refl
count-length (x ∷ xs) = let e = sum_by-cons (λ y. 1) x xs in let ih = count-length xs in
    omega (arith, e, ih)

-- if a call has returned, there is a return
pub has-return : (calls : List Called) (returns : List Return) → AreReturnsOf calls returns →
    are_pending calls ≡ false → 0 < length returns
has-return calls returns are is =
    let some = return-from 0 calls is in
    let e = sum_by-IsPermutation (λ x. 1) (returns_from 0 calls) returns are.each in
    let old = count-length (returns_from 0 calls) in
    let new = count-length returns in
    omega (arith, some, e, old, new)
