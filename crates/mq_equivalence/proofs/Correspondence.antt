-- Queues that correspond.
use Rattle.std.proofs.lemmas.Bool.Decides.{nat_tests}
use Rattle.std.proofs.Common.{◌≡◌, ℕ, suc, ◌==◌, true, false, not, List, [], ◌∷◌, length, refl, sym, ◌∙◌, ap, arith, eqb-true, eq-eqb, ne_eqb}
use Rattle.std.proofs.lemmas.Bool.{eqb-false}
use Rattle.mq_model.specs.Messages.{is_in}
use Rattle.mq_model.proofs.Places.{split, is_in-filter}
use Rattle.mq_model.proofs.Presence.{without-absent}
use Rattle.mq_model.proofs.Steps.{without}
use Rattle.mq_equivalence.specs.Structure.{Corresponds}
use Rattle.mq_equivalence.proofs.Falling.{Falls, falls-filter, in-cons, in-first}
use Rattle.mq_model.proofs.HeldQueues.{in-filter}

pub corresponds-self : (qs : List ℕ) → Corresponds (λ q. q) qs qs
corresponds-self qs = record {
  each = λ q h. h;
  every = λ k h. (k, h, refl);
  once = λ p q hp hq e. e;
}

pub corresponds-on : (to on : ℕ → ℕ) (xs ys zs : List ℕ) → Corresponds to xs ys →
    Corresponds on ys zs → Corresponds (λ q. on (to q)) xs zs
corresponds-on to on xs ys zs f g = grind arith

one-less : (ks : List ℕ) (k : ℕ) → Falls ks → is_in ks k ≡ true →
    suc (length (without k ks)) ≡ length ks
one-less [] k falls h = absurd (cc)
one-less (j ∷ ks) k falls h = split (j == k)
    (λ t. let same : j ≡ k = eqb-true j k t in
    let gone : is_in ks k ≡ false = split (is_in ks k) (λ y. let below = falls.0 k y in
    let bad : ⊥ = omega (arith, below, same) in absurd bad) (λ n. n) in
    rw (eq-eqb k j (sym same)) (ap (λ (is : List ℕ). suc (length is)) (without-absent k ks gone)))
    (λ f. let other : (k == j) ≡ false = ne_eqb k j (λ is. eqb-false j k f (sym is)) in
    let later : is_in ks k ≡ true = rw f at h in
    rw other (ap suc (one-less ks k falls.1 later)))

pub as-many : (to : ℕ → ℕ) (xs ys : List ℕ) → Falls xs → Falls ys → Corresponds to xs ys →
    length ys ≡ length xs
as-many to [] [] falls_x falls_y c = refl
as-many to [] (k ∷ ys) falls_x falls_y c = let q = c.every k (in-first k ys) in let none : false ≡
    true = q.1 in absurd (cc)
as-many to (q ∷ xs) ys falls_x falls_y c =
    let k = to q in
    let other : (p : ℕ) → is_in xs p ≡ true → q ≡ p →
    ⊥ = λ p h e. let below = falls_x.0 p h in omega (arith, below, e) in
    let rest : Corresponds to xs (without k ys) = grind (
      arith,
      nat_tests,
      in-cons,
      in-first,
      is_in-filter,
      eq-eqb,
      in-filter,
    ) in
    sym (one-less ys k falls_y (c.each q (in-first q xs)))
    ∙ ap suc (as-many to xs (without k ys) falls_x.1 (falls-filter (λ i. not (k == i)) ys falls_y)
    rest)
