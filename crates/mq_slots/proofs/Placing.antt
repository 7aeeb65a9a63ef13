-- Messages in a list, the latest first.
use Rattle.std.proofs.Common.{◌≡◌, ◌≢◌, ℕ, zero, suc, ◌+◌, ◌<◌, ◌≤◌, ◌⊎◌, inl, inr, List, [], ◌∷◌, length, get_or, refl, sym, ap, arith, eq-eqb, ne_eqb}
use Rattle.std.specs.List.{Contains}
use Rattle.std.proofs.lemmas.Bool.{cases_lt, cases_eq, lt-ltb, le-ltb}
use Rattle.mq_slots.specs.Messages.{placed, without}

-- which messages there are ------------------------------------------------------------------------

first-or-later : (x : ℕ × ℕ) (xs : List (ℕ × ℕ)) (m : ℕ × ℕ) → (k : ℕ) → k < length (x ∷ xs) →
    get_or (x ∷ xs) k m ≡ m → (m ≡ x) ⊎ Contains xs m
first-or-later x xs m k within is = grind arith

pub contains-cons : (x : ℕ × ℕ) (xs : List (ℕ × ℕ)) (m : ℕ × ℕ) → Contains (x ∷ xs) m →
    (m ≡ x) ⊎ Contains xs m
contains-cons x xs m there = first-or-later x xs m there.0 there.1 there.2

pub contains-later : (x : ℕ × ℕ) (xs : List (ℕ × ℕ)) (m : ℕ × ℕ) → Contains xs m →
    Contains (x ∷ xs) m
contains-later x xs m (k, within, is) = (suc k, omega arith, is)

pub contains-here : (x : ℕ × ℕ) (xs : List (ℕ × ℕ)) → Contains (x ∷ xs) x
contains-here x xs = (zero, omega arith, refl)

pub placed-here : (m : ℕ × ℕ) (xs : List (ℕ × ℕ)) → Contains (placed m xs) m
placed-here m [] = contains-here m []
placed-here m (x ∷ xs) = elim (cases_lt x.1 m.1) [
  | inl h ↦ rw (lt-ltb x.1 m.1 h) (contains-here m (x ∷ xs))
  | inr h ↦ rw (le-ltb x.1 m.1 h) (contains-later x (placed m xs) m (placed-here m xs))
]

pub placed-still : (m : ℕ × ℕ) (xs : List (ℕ × ℕ)) (other : ℕ × ℕ) → Contains xs other →
    Contains (placed m xs) other
placed-still m [] other there = contains-later m [] other there
placed-still m (x ∷ xs) other there = elim (cases_lt x.1 m.1) [
  | inl h ↦ rw (lt-ltb x.1 m.1 h) (contains-later m (x ∷ xs) other there)
  | inr h ↦ rw (le-ltb x.1 m.1 h) (elim (contains-cons x xs other there) [
    | inl e ↦ (zero, omega arith, sym e)
    | inr rest ↦ contains-later x (placed m xs) other (placed-still m xs other rest)
  ])
]

pub placed-cases : (m : ℕ × ℕ) (xs : List (ℕ × ℕ)) (other : ℕ × ℕ) → Contains (placed m xs) other →
    (other ≡ m) ⊎ Contains xs other
placed-cases m [] other there = contains-cons m [] other there
placed-cases m (x ∷ xs) other there = elim (cases_lt x.1 m.1) [
  | inl h ↦ contains-cons m (x ∷ xs) other (rw (lt-ltb x.1 m.1 h) at there)
  | inr h ↦ elim (contains-cons x (placed m xs) other (rw (le-ltb x.1 m.1 h) at there)) [
    | inl e ↦ inr (zero, omega arith, sym e)
    | inr rest ↦ elim (placed-cases m xs other rest) [
      | inl e ↦ inl e
      | inr old ↦
          inr (contains-later x xs other old)
    ]
  ]
]

pub length-placed : (m : ℕ × ℕ) (xs : List (ℕ × ℕ)) → length (placed m xs) ≡ length xs + 1
length-placed m [] = refl
length-placed m (x ∷ xs) = grind (arith, cases_lt, lt-ltb, le-ltb, length-placed m xs)

-- their order
-- ---------------------------------------------------------------------------------------

-- every place is below n
abbrev pub Below : ℕ → List (ℕ × ℕ) → Type 0
Below n [] = Unit {0}
Below n (x ∷ xs) = (x.1 < n) × Below n xs

-- each place is below those before it, or is the same
abbrev pub Descending : List (ℕ × ℕ) → Type 0
Descending [] = Unit {0}
Descending (x ∷ xs) = Below (x.1 + 1) xs × Descending xs

below-more : (n k : ℕ) (xs : List (ℕ × ℕ)) → n ≤ k → Below n xs → Below k xs
below-more n k [] le below = tt
below-more n k (x ∷ xs) le below = (let lt = below.0 in omega arith, below-more n k xs le below.1)

pub contains-below : (n : ℕ) (xs : List (ℕ × ℕ)) → ((m : ℕ × ℕ) → Contains xs m → m.1 < n) →
    Below n xs
contains-below n [] all = tt
contains-below n (x ∷ xs) all = (
  all x (contains-here x xs),
  contains-below n xs
      (λ m there. all m (contains-later x xs m there)),
)

placed-below : (n : ℕ) (m : ℕ × ℕ) (xs : List (ℕ × ℕ)) → m.1 < n → Below n xs →
    Below n (placed m xs)
placed-below n m [] lt below = (lt, tt)
placed-below n m (x ∷ xs) lt below = grind (
  arith,
  cases_lt,
  lt-ltb,
  le-ltb,
  placed-below n m xs lt below.1,
)

pub below-placed : (n : ℕ) (m : ℕ × ℕ) (xs : List (ℕ × ℕ)) → Below n (placed m xs) →
    (m.1 < n) × Below n xs
below-placed n m [] below = (below.0, tt)
below-placed n m (x ∷ xs) below = elim (cases_lt x.1 m.1) [
  | inl h ↦ (let all : Below n (m ∷ x ∷ xs) = rw (lt-ltb x.1 m.1 h) at below in (all.0, all.1))
  | inr h ↦ (let all : Below n (x ∷ placed m xs) = rw (le-ltb x.1 m.1 h) at below in
      let rest = below-placed n m xs all.1 in (rest.0, (all.0, rest.1)))
]

pub placed-descending : (m : ℕ × ℕ) (xs : List (ℕ × ℕ)) → Descending xs → Descending (placed m xs)
placed-descending m [] down = (tt, tt)
placed-descending m (x ∷ xs) down = grind (
  arith,
  cases_lt,
  lt-ltb,
  below-more,
  le-ltb,
  placed-below,
  placed-descending m xs down.1,
)

-- the latest message is first
pub placed-top : (m : ℕ × ℕ) (xs : List (ℕ × ℕ)) → Below m.1 xs → placed m xs ≡ m ∷ xs
placed-top m [] below = refl
placed-top m (x ∷ xs) below = rw (lt-ltb x.1 m.1 below.0) refl

-- and another comes after it
pub placed-under : (m top : ℕ × ℕ) (xs : List (ℕ × ℕ)) → m.1 < top.1 →
    placed m (top ∷ xs) ≡ top ∷ placed m xs
placed-under m top xs lt = rw (le-ltb top.1 m.1 (omega arith)) refl

-- without one of them -----------------------------------------------------------------------------

-- none has this place
abbrev pub NoneAt : ℕ → List (ℕ × ℕ) → Type 0
NoneAt place [] = Unit {0}
NoneAt place (x ∷ xs) = (x.1 ≢ place) × NoneAt place xs

pub contains-none_at : (place : ℕ) (xs : List (ℕ × ℕ)) →
    ((m : ℕ × ℕ) → Contains xs m → m.1 ≢ place) → NoneAt place xs
contains-none_at place [] all = tt
contains-none_at place (x ∷ xs) all = (
  all x (contains-here x xs),
  contains-none_at place xs
      (λ m there. all m (contains-later x xs m there)),
)

pub without-none : (place : ℕ) (xs : List (ℕ × ℕ)) → NoneAt place xs → without place xs ≡ xs
without-none place [] none = refl
without-none place (x ∷ xs) none = rw (ne_eqb x.1 place none.0)
    (ap (λ rest. x ∷ rest) (without-none place xs none.1))

-- the message itself goes
pub without-placed : (place : ℕ) (m : ℕ × ℕ) (xs : List (ℕ × ℕ)) → m.1 ≡ place →
    without place (placed m xs) ≡ without place xs
without-placed place m [] is = rw (eq-eqb m.1 place is) refl
without-placed place m (x ∷ xs) is = grind (
  arith,
  cases_lt,
  lt-ltb,
  eq-eqb,
  le-ltb,
  cases_eq,
  without-placed place m xs is,
)

-- another message is kept
pub without-other : (place : ℕ) (m : ℕ × ℕ) (xs : List (ℕ × ℕ)) → m.1 ≢ place → Descending xs →
    without place (placed m xs) ≡ placed m (without place xs)
without-other place m [] other down = rw (ne_eqb m.1 place other) refl
without-other place m (x ∷ xs) other down = grind (
  arith,
  cases_lt,
  lt-ltb,
  placed-top,
  below-more,
  le-ltb,
  cases_eq,
  eq-eqb,
  without-other place m xs other down.1,
)
