-- Callers that are threads of one process.
use Rattle.std.proofs.lemmas.Nat.{mod_below}
use Rattle.std.proofs.Common.{◌≡◌, ℕ, ◌-◌, ◌%◌, ◌<◌, ◌≤◌, ◌==◌, true, [], ◌∷◌, nat_le, refl, arith, eq-eqb}
use Rattle.std.proofs.lemmas.Bool.Decides.{nat_tests}
use Rattle.mq_model.specs.Record.{Past}
use Rattle.mq_model.specs.Threads.{owner_of, shares}
use Rattle.mq_model.specs.Descriptors.{held}
use Rattle.mq_model.proofs.Places.{split}

-- the first thread of a process names the process
pub owner_own : (p : ℕ) → p ≤ 32 → owner_of p ≡ p
unfolding owner_of
owner_own p few = grind (arith, nat_tests)

pub owner_few : (p : ℕ) → owner_of p ≤ 32
unfolding owner_of
owner_few p = split (nat_le p 32)
    (λ t. rw t (grind (arith, nat_tests)))
    (λ f. rw f (let lt : (p - 1) % 32 < 32 = mod_below (p - 1) 32 (omega arith) in
    omega (arith, lt)))

pub owner_owner : (p : ℕ) → owner_of (owner_of p) ≡ owner_of p
owner_owner p = owner_own (owner_of p) (owner_few p)

pub owner_below : (p : ℕ) → owner_of p ≤ p
owner_below p = split (nat_le p 32)
    (λ t. let le : p ≤ 32 = grind (arith, nat_tests) in let e = owner_own p le in omega (arith, e))
    (λ f. let gt : 32 < p = grind (arith, nat_tests) in let le = owner_few p in
    omega (arith, gt, le))

pub shares_self : (p : ℕ) → shares p p ≡ true
shares_self p = eq-eqb (owner_of p) (owner_of p) refl

-- among the first threads, only a caller itself is of its process
pub shares_own : (a b : ℕ) → a ≤ 32 → b ≤ 32 → shares a b ≡ (a == b)
shares_own a b x y = rw (owner_own a x, owner_own b y) refl

-- threads of one process hold the same
pub held-mates : (past : Past) (a b : ℕ) → owner_of a ≡ owner_of b → (d : ℕ) →
    held past a d ≡ held past b d
held-mates [] a b e d = refl
held-mates (r ∷ past) a b e d = rw (e, held-mates past a b e d) refl
