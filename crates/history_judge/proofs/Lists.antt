-- The elements of lists by their places.
use Rattle.std.proofs.Common.{◌≡◌, ◌≢◌, ℕ, ◌<◌, zero, suc, List, [], ◌∷◌, ◌++◌, length, Some, refl, ap, arith, set, slice_get, subst}

pub get-same : {A : Type 0} (xs : List A) (i : ℕ) (v : A) → i < length xs →
    slice_get (set xs i v) i ≡ Some v
get-same [] i v h = absurd (omega arith)
get-same (x ∷ xs) zero v h = refl
get-same (x ∷ xs) (suc i) v h = get-same xs i v (omega arith)

pub get-other : {A : Type 0} (xs : List A) (i j : ℕ) (v : A) → j ≢ i →
    slice_get (set xs i v) j ≡ slice_get xs j
get-other (x ∷ xs) zero zero v h = absurd (h refl)
get-other (x ∷ xs) (suc i) (suc j) v h = get-other xs i j v (λ e. h (ap suc e))
get-other _ _ _ v h = refl

-- the element after others
pub get-behind : {A : Type 0} (xs ys : List A) (v : A) → slice_get (xs ++ v ∷ ys) (length xs) ≡
    Some v
get-behind [] ys v = refl
get-behind (x ∷ xs) ys v = get-behind xs ys v

-- what holds of each element holds of each with one more
pub each-more : {A : Type 0} (P : ℕ → A → Type 0) (xs : List A) (v : A) →
    ((k : ℕ) (x : A) → slice_get xs k ≡ Some x → P k x) → P (length xs) v →
    (k : ℕ) (x : A) → slice_get (xs ++ v ∷ []) k ≡ Some x → P k x
each-more P [] v each last zero x is = let e : v ≡ x = cc in subst (λ y. P 0 y) e last
each-more P [] v each last (suc k) x is = let no : ⊥ = cc in absurd no
each-more P (y ∷ xs) v each last zero x is = each zero x is
each-more P (y ∷ xs) v each last (suc k) x is = each-more (λ n. P (suc n)) xs v
    (λ n z at. each (suc n) z at) last k x is
