-- A table with one row changed, row by row.
use Rattle.std.proofs.Common.{◌≡◌, ℕ, zero, suc, ◌<◌, ◌==◌, true, List, [], ◌∷◌, length, Option, Some, None, if◌then◌else◌, set, get_or, refl, ◌∙◌, ap, arith, eqb-true, slice_get}
use Rattle.std.specs.Option.{option_map, option_and_then}
use Rattle.std.proofs.lemmas.Bool.Decides.{nat_tests}
use Rattle.mq_model.specs.Rows.{changed}
use Rattle.mq_model.proofs.Places.{split}

pub changed-set : {A : Type 0} (f : A → A) (rows : List A) (p : ℕ) (d : A) → p < length rows →
    set rows p (f (get_or rows p d)) ≡ changed f rows p
changed-set f [] p d lt = absurd (omega arith)
changed-set f (o ∷ rows) zero d lt = refl
changed-set f (o ∷ rows) (suc p) d lt = ap (λ rest. o ∷ rest) (changed-set f rows p d (omega arith))

pub slice_get-changed : {A : Type 0} (f : A → A) (rows : List A) (p k : ℕ) →
    slice_get (changed f rows p) k ≡
    (if p == k then option_map f (slice_get rows k) else slice_get rows k)
slice_get-changed f [] p k = split (p == k) (λ t. rw t refl) (λ e. rw e refl)
slice_get-changed f (o ∷ rows) zero zero = refl
slice_get-changed f (o ∷ rows) (suc p) (suc k) = slice_get-changed f rows p k ∙
    grind (arith, nat_tests)
slice_get-changed f (o ∷ rows) _ _ = grind (arith, nat_tests)

pub length-changed : {A : Type 0} (f : A → A) (rows : List A) (p : ℕ) →
    length (changed f rows p) ≡ length rows
length-changed f (o ∷ rows) (suc p) = ap suc (length-changed f rows p)
length-changed f _ _ = refl

-- what is read of a row that was changed
pub read-changed : {A X : Type 0} (g : A → Option X) (f : A → A) (rows : List A) (p k : ℕ) →
    option_and_then g (slice_get (changed f rows p) k) ≡
    (if p == k then option_and_then (λ o. g (f o)) (slice_get rows k) else option_and_then g
    (slice_get rows k))
read-changed {A = A} g f rows p k = split (p == k)
    (λ t. rw (slice_get-changed f rows p k, t) (mapped (slice_get rows k)))
    (λ e. rw (slice_get-changed f rows p k, e) refl)
  where
    mapped : (x : Option A) → option_and_then g (option_map f x) ≡ option_and_then (λ o. g (f o)) x
    mapped None = refl
    mapped (Some o) = refl

-- a change that leaves what is read alone
pub read-same : {A X : Type 0} (g : A → Option X) (f : A → A) (rows : List A) (p k : ℕ) →
    ((o : A) → g (f o) ≡ g o) →
    option_and_then g (slice_get (changed f rows p) k) ≡ option_and_then g (slice_get rows k)
read-same {A = A} g f rows p k same = read-changed g f rows p k ∙ split (p == k)
    (λ t. rw t (inner (slice_get rows k)))
    (λ e. rw e refl)
  where
    inner : (x : Option A) → option_and_then (λ o. g (f o)) x ≡ option_and_then g x
    inner None = refl
    inner (Some o) = same o

pub row-exists : {A : Type 0} (rows : List A) (p : ℕ) → p < length rows →
    (o : A) × (slice_get rows p ≡ Some o)
row-exists [] p lt = absurd (omega arith)
row-exists (o ∷ rows) zero lt = (o, refl)
row-exists (o ∷ rows) (suc p) lt = row-exists rows p (omega arith)

-- a change that sets what is read
pub read-set : {A X : Type 0} (g : A → Option X) (f : A → A) (rows : List A) (p k : ℕ)
    (v : Option X) → p < length rows → ((o : A) → g (f o) ≡ v) →
    option_and_then g (slice_get (changed f rows p) k) ≡
    (if p == k then v else option_and_then g (slice_get rows k))
read-set {A = A} g f rows p k v lt sets = read-changed g f rows p k ∙ split (p == k)
    (λ t. rw t (inner (slice_get rows k) (row-exists rows k (subst_lt t))))
    (λ e. rw e refl)
  where
    subst_lt : (p == k) ≡ true → k < length rows
    subst_lt t = let e : p ≡ k = eqb-true _ _ t in omega arith

    inner : (o : Option A) → ((x : A) × (o ≡ Some x)) → option_and_then (λ x. g (f x)) o ≡ v
    inner None is = absurd (let e : None ≡ Some is.0 = is.1 in cc)
    inner (Some x) is = sets x
