-- What a search keeps for each choice of its path.
use Rattle.std.proofs.Common.{◌≡◌, ℕ, List, [], ◌∷◌, ◌++◌, Option, Some, None, refl, subst, ap, arith}
use Rattle.std.specs.Option.{option_and_then}
use Rattle.schedules.specs.Schedules.{after}

-- what is kept for each choice is of it, at its node
abbrev pub AreAlong : {S L : Type 0} → (S → ℕ → Option S) → (S → ℕ → L → Type 0) → List ℕ → List L →
    S → Type 0
AreAlong next IsOf [] [] s = Unit {0}
AreAlong next IsOf [] (l ∷ ls) s = ⊥
AreAlong next IsOf (choice ∷ path) [] s = ⊥
AreAlong {S} next IsOf (choice ∷ path) (l ∷ ls) s = IsOf s choice l ×
    ((t : S) → next s choice ≡ Some t → AreAlong next IsOf path ls t)

-- a choice more
pub along-push : {S L : Type 0} (next : S → ℕ → Option S) (IsOf : S → ℕ → L → Type 0)
    (path : List ℕ) (ls : List L) (choice : ℕ) (l : L) (s now : S) →
    after next path s ≡ Some now → IsOf now choice l →
    AreAlong next IsOf path ls s → AreAlong next IsOf (path ++ choice ∷ []) (ls ++ l ∷ []) s
along-push {S} next IsOf [] [] choice l s now runs is are = grind arith
along-push {S} next IsOf (c ∷ path) (k ∷ ls) choice l s now runs is are = (
  are.0,
  (λ t step. along-push next IsOf path ls choice l t now (let e : option_and_then (after next path)
      (next s c) ≡ Some now = runs in rw step at e) is (are.1 t step)),
)
along-push next IsOf _ _ choice l s now runs is are = absurd are

-- the last choice of a path
pub record IsLast {S L : Type 0} (next : S → ℕ → Option S) (IsOf : S → ℕ → L → Type 0)
    (front : List ℕ) (last : ℕ) (ls : List L) (s : S) : Type 0 where
  pub others : List L
  pub kept : L
  pub are : ls ≡ others ++ kept ∷ []
  pub front_are : AreAlong next IsOf front others s
  pub here : (node : S) → after next front s ≡ Some node → IsOf node last kept

pub along-last : {S L : Type 0} (next : S → ℕ → Option S) (IsOf : S → ℕ → L → Type 0)
    (front : List ℕ) (last : ℕ) (ls : List L) (s now : S) →
    after next (front ++ last ∷ []) s ≡ Some now → AreAlong next IsOf (front ++ last ∷ []) ls s →
    IsLast next IsOf front last ls s
along-last next IsOf [] last [] s now runs are = absurd are
along-last {S} next IsOf [] last (l ∷ []) s now runs are = record {
  others = [];
  kept = l;
  are = refl;
  front_are = tt;
  here = λ node is. let same : s ≡ node = cc in let P : S →
      Type 0 = λ x. IsOf x last l in subst P same are.0;
}
along-last {S} next IsOf [] last (l ∷ m ∷ ls) s now runs are = grind arith
along-last next IsOf (c ∷ front) last [] s now runs are = absurd are
along-last {S} {L} next IsOf (c ∷ front) last (l ∷ ls) s now runs are =
    let goes : (o : Option S) → next s c ≡ o → option_and_then (after next (front ++ last ∷ [])) o ≡
    Some now → IsLast next IsOf (c ∷ front) last (l ∷ ls) s =
    λ (o : Option S). elim o as (λ o. next s c ≡ o → option_and_then
    (after next (front ++ last ∷ [])) o ≡ Some now →
    IsLast next IsOf (c ∷ front) last (l ∷ ls) s) [
      | None ↦ (λ e h. cc)
      | Some t ↦ (λ e h.
          let rest = along-last next IsOf front last ls t now h (are.1 t e) in
          record {
            others = l ∷ rest.others;
            kept = rest.kept;
            are = ap (λ (xs : List L). l ∷ xs) rest.are;
            front_are = (
              are.0,
              (λ u step. let same : t ≡ u = cc in let P : S → Type 0 = λ x. AreAlong next
                  IsOf front rest.others x in subst P same rest.front_are),
            );
            here = λ node is. rest.here node (let f : option_and_then (after next front)
                (next s c) ≡ Some node = is in rw e at f);
          })
    ]
    in
    goes (next s c) refl runs

-- a schedule of one choice
pub taken : {S : Type 0} (next : S → ℕ → Option S) (s t : S) (choice : ℕ) →
    after next (choice ∷ []) s ≡ Some t → next s choice ≡ Some t
taken {S} next s t choice runs = grind arith
