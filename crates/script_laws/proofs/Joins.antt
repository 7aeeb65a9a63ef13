-- Lists that are appended to each other.
use Rattle.std.proofs.lemmas.Grind.{common_steps}
use Rattle.std.proofs.Common.{arith, ◌≡◌, ◌⊎◌, inl, inr, ℕ, List, [], ◌∷◌, ◌++◌, refl, ap, sym, eq-eqb}
use Rattle.std.specs.List.{All}
use Rattle.std.proofs.lemmas.List.Elements.{All-head, All-tail, filter-append}
use Rattle.fast_mutex.specs.Items.{items_of}

-- of two suffixes of one list, one is a suffix of the other
pub two-ends : {A : Type 0} (a b x y : List A) → a ++ x ≡ b ++ y →
    ((w : List A) × (x ≡ w ++ y) × (b ≡ a ++ w)) ⊎ ((w : List A) × (y ≡ w ++ x) × (a ≡ b ++ w))
two-ends [] b x y h = inl (b, h, refl)
two-ends (c ∷ a) [] x y h = inr (c ∷ a, sym h, refl)
two-ends (c ∷ a) (d ∷ b) x y h = grind (arith, two-ends a b x y cc)

-- a list is empty or has a last element
pub by-last : {A : Type 0} (xs : List A) →
    (xs ≡ []) ⊎ ((ys : List A) × (r : A) × (xs ≡ ys ++ r ∷ []))
by-last [] = inl refl
by-last {A} (x ∷ xs) =
    elim (by-last xs) [
      | inl e ↦ inr ([], x, ap (λ (l : List A). x ∷ l) e)
      | inr e ↦ inr (x ∷ e.0, e.1, ap (λ (l : List A). x ∷ l) e.2)
    ]

pub has-last : {A : Type 0} (ys : List A) (r : A) → ys ++ r ∷ [] ≡ [] → ⊥
has-last ys r h = grind (arith, common_steps)

pub same-last : {A : Type 0} (a b : List A) (x y : A) → a ++ x ∷ [] ≡ b ++ y ∷ [] → x ≡ y
same-last [] [] x y h = cc
same-last [] (d ∷ b) x y h = let e : b ++ y ∷ [] ≡ [] = cc in absurd (has-last b y e)
same-last (c ∷ a) [] x y h = let e : a ++ x ∷ [] ≡ [] = cc in absurd (has-last a x e)
same-last (c ∷ a) (d ∷ b) x y h = same-last a b x y cc

pub all-right : {A : Type 0} (P : A → Type 0) (xs ys : List A) → All P (xs ++ ys) → All P ys
all-right P [] ys all = all
all-right P (x ∷ xs) ys all = all-right P xs ys (All-tail P x (xs ++ ys) all)

pub all-last : {A : Type 0} (P : A → Type 0) (xs : List A) (x : A) → All P (xs ++ x ∷ []) → P x
all-last P xs x all = All-head P x [] (all-right P xs (x ∷ []) all)

pub both-empty : {A : Type 0} (xs ys : List A) → xs ++ ys ≡ [] → (xs ≡ []) × (ys ≡ [])
both-empty [] ys h = (refl, h)
both-empty (x ∷ xs) ys h = cc

-- the last item is p's, so p has an item
pub owns-last : {A : Type 0} (own : A → ℕ) (p : ℕ) (xs : List A) (x : A) → own x ≡ p →
    items_of own p (xs ++ x ∷ []) ≡ [] → ⊥
owns-last {A} own p xs x is none = grind (arith, both-empty, filter-append, eq-eqb)
