-- The first records of a journal.
use Rattle.std.proofs.lemmas.Bool.Decides.{nat_tests}
use Rattle.std.proofs.lemmas.Grind.{common_steps}
use Rattle.std.proofs.Common.{◌≡◌, ℕ, suc, ◌+◌, ◌-◌, ◌<◌, ◌≤◌, ◌==◌, false, [], ◌∷◌, length, Option, Some, refl, arith, length-drop, eqb-true, ne_eqb, leb-true, leb-false, nat_le}
use Rattle.std.proofs.lemmas.List.{drop_all}
use Rattle.std.proofs.lemmas.Bool.{eqb-false}
use Rattle.mq_model.specs.Record.{Record, Past, record_at, first}
use Rattle.mq_model.specs.Names.{bound_queue}
use Rattle.mq_model.specs.Descriptors.{is_place, is_named}
use Rattle.mq_model.specs.Legality.{Legal}
use Rattle.mq_model.proofs.Places.{split}

pub length-first : (k : ℕ) (past : Past) → k ≤ length past → length (first k past) ≡ k
length-first k past le = omega (arith, length-drop (length past - k) past)

pub first-none : (past : Past) → first 0 past ≡ []
first-none past = drop_all (length past - 0) past (omega arith)

pub record_at-below : (past : Past) (k : ℕ) (r : Record) → record_at past k ≡ Some r →
    k < length past
record_at-below [] k r h = absurd (cc)
record_at-below (s ∷ past) k r h =
    split (k == length past)
    (λ t. let e : k ≡ length past = eqb-true _ _ t in omega arith)
    (λ f. let old : record_at past k ≡ Some r = rw f at h in
    omega (arith, record_at-below past k r old))

pub first-more : (past : Past) (k : ℕ) (r : Record) → record_at past k ≡ Some r →
    first (k + 1) past ≡ r ∷ first k past
first-more [] k r h = absurd (cc)
first-more (s ∷ past) k r h =
    split (k == length past)
    (λ t. grind (arith, nat_tests, eqb-true))
    (λ f. let old : record_at past k ≡ Some r = rw f at h in
    let below : k < length past = record_at-below past k r old in
    let more : suc (length past) - (k + 1) ≡ suc (length past - (k + 1)) = omega arith in
    let less : suc (length past) - k ≡ suc (length past - k) = omega arith in
    rw (more, less) (first-more past k r old))

pub ruleset prefixes = (length-first, first-none)

pub record_at-first : (past : Past) (k q : ℕ) → q < k → k ≤ length past →
    record_at (first k past) q ≡ record_at past q
record_at-first [] k q lt le = absurd (omega arith)
record_at-first (s ∷ past) k q lt le =
    split (k == suc (length past))
    (λ all. let e : k ≡ suc (length past) = eqb-true _ _ all in let none : suc (length past) - k ≡
    0 = omega arith in rw none refl)
    (λ some. let ne : k ≡ suc (length past) → ⊥ = eqb-false _ _ some in
    let less : suc (length past) - k ≡ suc (length past - k) = omega arith in
    let other : (q == length past) ≡ false = ne_eqb _ _ (λ e. omega arith) in
    rw (less, other) (record_at-first past k q lt (omega arith)))

pub record_at-of_first : (past : Past) (k q : ℕ) (r : Record) →
    first (q + 1) past ≡ r ∷ first q past → q < k → k ≤ length past →
    record_at (first k past) q ≡ Some r
record_at-of_first past k q r is lt le = grind (arith, common_steps, first-more, record_at-first)

pub named_is : (past : Past) (k q : ℕ) (r : Record) (o : Option ℕ) →
    first (q + 1) past ≡ r ∷ first q past → q < k → k ≤ length past →
    o ≡ bound_queue (first k past) r.payload → is_place q o ≡ is_named (first k past) q
named_is past k q r o is lt le e = grind (arith, record_at-of_first)

-- the first records, as many as there are, are all of them
pub first-all : (past : Past) (k : ℕ) → k ≡ length past → first k past ≡ past
first-all past k e = let none : length past - k ≡ 0 = omega arith in rw none refl

-- what comes first in a legal journal is legal
pub legal-first : (past : Past) (k : ℕ) → Legal past → Legal (first k past)
legal-first [] k legal = let none : 0 - k ≡ 0 = omega arith in rw none legal
legal-first (r ∷ past) k legal = split (nat_le (suc (length past)) k)
    (λ all. let none : suc (length past) - k ≡ 0 = omega (arith, leb-true _ _ all) in rw none legal)
    (λ some. let less : suc (length past) - k ≡ suc (length past - k) = omega
    (arith, leb-false _ _ some) in rw less (legal-first past k legal.0))
