-- The best of a list, found in one pass.
use Rattle.std.proofs.Common.{◌≡◌, ℕ, Bool, true, false, List, [], ◌∷◌, Some, None, refl, ◌∙◌, arith}
use Rattle.std.specs.List.{find, list_all}
use Rattle.std.proofs.lemmas.Bool.{and_parts, and_from}
use Rattle.std.proofs.lemmas.Bool.Decides.{nat_tests}
use Rattle.mq_model.specs.Record.{Past}
use Rattle.mq_model.specs.Messages.{goes_first, present, best}
use Rattle.mq_model.specs.OnePass.{best_of}
use Rattle.mq_model.proofs.Places.{split, clash}

-- which of two goes first: one of any two, and it is an order but for ties
pub record IsRanking {X : Type 0} (first : X → X → Bool) : Type 0 where
  pub self : (x : X) → first x x ≡ true
  pub chain : (x y z : X) → first x y ≡ true → first y z ≡ true → first x z ≡ true
  pub other : (x y : X) → first x y ≡ false → first y x ≡ true

pub all-weaker : {X : Type 0} (first : X → X → Bool) → IsRanking first → (x y : X) →
    first x y ≡ true → (xs : List X) → list_all (first y) xs ≡ true → list_all (first x) xs ≡ true
all-weaker first is x y p [] h = refl
all-weaker first is x y p (z ∷ xs) h =
    let parts = and_parts (first y z) (list_all (first y) xs) h in
    and_from _ _ (is.chain x y z p parts.0) (all-weaker first is x y p xs parts.1)

find-passes : {X : Type 0} (t s : X → Bool) (xs : List X) (n : X) → find t xs ≡ Some n →
    list_all s xs ≡ true → s n ≡ true
find-passes t s [] n e all = absurd (cc)
find-passes t s (x ∷ xs) n e all =
    let parts = and_parts (s x) (list_all s xs) all in
    split (t x)
    (λ y. let here : Some x ≡ Some n = rw y at e in let same : x ≡ n = cc in rw (← same) parts.0)
    (λ f. let rest : find t xs ≡ Some n = rw f at e in find-passes t s xs n rest parts.1)

pub find-test : {X : Type 0} (t : X → Bool) (xs : List X) (n : X) → find t xs ≡ Some n → t n ≡ true
find-test t [] n e = absurd (cc)
find-test t (x ∷ xs) n e = split (t x)
    (λ y. let here : Some x ≡ Some n = rw y at e in let same : x ≡ n = cc in rw (← same) y)
    (λ f. let rest : find t xs ≡ Some n = rw f at e in find-test t xs n rest)

none-left : {X : Type 0} (first : X → X → Bool) (xs : List X) → best_of first xs ≡ None → xs ≡ []
none-left first [] e = refl
none-left first (x ∷ xs) e = absurd (cc)

-- the one found in one pass is the first that goes before all
pub best_of-best : {X : Type 0} (first : X → X → Bool) → IsRanking first → (xs : List X) →
    best_of first xs ≡ find (λ m. list_all (first m) xs) xs
best_of-best first is [] = refl
best_of-best first is (x ∷ xs) = grind (
  arith,
  none-left,
  find-test,
  all-weaker,
  clash,
  find-passes,
  best_of-best first is xs,
)

-- messages by priority and place
pub messages-ranking : (past : Past) → IsRanking (goes_first past)
messages-ranking past = record {
  self = λ x. grind (arith, nat_tests);
  chain = λ x y z p q. grind (arith, nat_tests);
  other = λ x y p. grind (arith, nat_tests);
}

-- with no best message there is none
pub best-none : (past : Past) (q : ℕ) → best past q ≡ None → present past q ≡ []
best-none past q e = none-left (goes_first past) (present past q) (best_of-best (goes_first past)
    (messages-ranking past) (present past q) ∙ e)
