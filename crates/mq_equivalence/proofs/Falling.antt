-- Lists of places, the latest first, and the records at these places.
use Rattle.std.proofs.Common.{◌≡◌, ℕ, ◌<◌, ◌≤◌, ◌==◌, Bool, true, false, List, [], ◌∷◌, map, Option, Some, None, is_some, refl, sym, ◌∙◌, ap, arith, eqb-true, eq-eqb, ne_eqb, ◌⊎◌, inl, inr, min, nat_le, length, suc, subst, unwrap_or}
use Rattle.std.specs.List.{filter}
use Rattle.std.proofs.lemmas.Bool.{eqb-false}
use Rattle.std.proofs.lemmas.Bool.Decides.{nat_tests}
use Rattle.mq_model.specs.Messages.{is_in, least}
use Rattle.mq_model.proofs.Places.{split, is_in-filter}
use Rattle.mq_model.proofs.Steps.{without}
use Rattle.mq_model.proofs.Presence.{without-absent}
use Rattle.mq_equivalence.specs.Views.{Message, joined, lined, prio_of}

-- each place is above all after it
abbrev pub Falls : List ℕ → Type 0
Falls [] = Unit {0}
Falls (k ∷ ks) = ((j : ℕ) → is_in ks j ≡ true → j < k) × Falls ks

pub falls-filter : (t : ℕ → Bool) (ks : List ℕ) → Falls ks → Falls (filter t ks)
falls-filter t [] falls = tt
falls-filter t (k ∷ ks) falls = grind (arith, is_in-filter, falls-filter t ks falls.1)

-- the last of a list, and the others
abbrev pub oldest : {X : Type 0} → List (Option X) → Option X
oldest [] = None
oldest (x ∷ []) = x
oldest (x ∷ (y ∷ xs)) = oldest (y ∷ xs)

abbrev pub newer : {X : Type 0} → List X → List X
newer [] = []
newer (x ∷ []) = []
newer (x ∷ (y ∷ xs)) = x ∷ newer (y ∷ xs)

abbrev pub any : {X : Type 0} → List X → Bool
any [] = false
any (x ∷ xs) = true

pub map-newer : {X Y : Type 0} (f : X → Y) (xs : List X) → map f (newer xs) ≡ newer (map f xs)
map-newer f (x ∷ (y ∷ xs)) = rw (map-newer f (y ∷ xs)) refl
map-newer f _ = refl

pub any-least : {X : Type 0} (f : ℕ → X) (ks : List ℕ) → is_some (least ks) ≡ any (map f ks)
any-least f [] = refl
any-least f (k ∷ ks) = refl

-- the least of falling places is the last
pub least-oldest : {X : Type 0} (f : ℕ → Option X) (ks : List ℕ) (w : ℕ) → Falls ks →
    least ks ≡ Some w → f w ≡ oldest (map f ks)
least-oldest f [] w falls e = cc
least-oldest f (k ∷ []) w falls e = grind arith
least-oldest f (k ∷ (l ∷ ks)) w falls e =
    let v = min l (unwrap_or (least ks) l) in
    let lower : v ≤ l = omega arith in
    let below : l < k = falls.0 l (rw (eq-eqb l l refl) refl) in
    let s : min k v ≡ w = cc in
    let same : w ≡ v = omega (arith, s, lower, below) in
    ap f same ∙ least-oldest f (l ∷ ks) v falls.1 refl

pub least-newer : (ks : List ℕ) (w : ℕ) → Falls ks → least ks ≡ Some w → without w ks ≡ newer ks
least-newer [] w falls e = refl
least-newer (k ∷ []) w falls e = grind (arith, eq-eqb)
least-newer (k ∷ (l ∷ ks)) w falls e =
    let v = min l (unwrap_or (least ks) l) in
    let lower : v ≤ l = omega arith in
    let below : l < k = falls.0 l (rw (eq-eqb l l refl) refl) in
    grind (arith, nat_tests, without, least-newer (l ∷ ks) v falls.1 refl)

-- items in line -----------------------------------------------------------------------------------

abbrev pub foremost : {X : Type 0} → List (Option X) → Option X
foremost [] = None
foremost (x ∷ line) = x

abbrev pub others : {X : Type 0} → List X → List X
others [] = []
others (x ∷ line) = line

map-joined : {X Y : Type 0} (rank : Y → ℕ) (f : X → Y) (x : X) (line : List X) →
    map f (joined (λ z. rank (f z)) x line) ≡ joined rank (f x) (map f line)
map-joined rank f x [] = refl
map-joined rank f x (y ∷ line) = grind (arith, map-joined rank f x line)

pub map-lined : {X Y : Type 0} (rank : Y → ℕ) (f : X → Y) (xs : List X) →
    map f (lined (λ z. rank (f z)) xs) ≡ lined rank (map f xs)
map-lined rank f [] = refl
map-lined rank f (x ∷ xs) = map-joined rank f x (lined (λ z. rank (f z)) xs) ∙
    ap (λ line. joined rank (f x) line) (map-lined rank f xs)

length-joined : {X : Type 0} (rank : X → ℕ) (x : X) (line : List X) →
    length (joined rank x line) ≡ suc (length line)
length-joined rank x [] = refl
length-joined rank x (y ∷ line) = split (nat_le (rank x) (rank y))
    (λ t. rw t (ap suc (length-joined rank x line))) (λ n. rw n refl)

pub length-lined : {X : Type 0} (rank : X → ℕ) (xs : List X) → length (lined rank xs) ≡ length xs
length-lined rank [] = refl
length-lined rank (x ∷ xs) = length-joined rank x (lined rank xs) ∙ ap suc (length-lined rank xs)

pub any-joined : {X : Type 0} (rank : X → ℕ) (x : X) (line : List X) →
    any (joined rank x line) ≡ true
any-joined rank x [] = refl
any-joined rank x (y ∷ line) = split (nat_le (rank x) (rank y)) (λ t. rw t refl) (λ n. rw n refl)

pub any-lined : {X : Type 0} (rank : X → ℕ) (xs : List X) → any (lined rank xs) ≡ any xs
any-lined rank xs = grind (arith, any-joined)

-- the foremost has a lower priority, if there is one
abbrev IsBelow : ℕ → List (Option Message) → Type 0
IsBelow n [] = Unit {0}
IsBelow n (c ∷ line) = prio_of c < n

below-joined : (n : ℕ) (c : Option Message) (line : List (Option Message)) → prio_of c < n →
    IsBelow n line → IsBelow n (joined prio_of c line)
below-joined n c line lt below = grind arith

-- what joins behind the foremost leaves it where it is
pub joined-behind : (c : Option Message) (line : List (Option Message)) → any line ≡ true →
    prio_of c ≤ prio_of (foremost line) →
    (foremost (joined prio_of c line) ≡ foremost line) ×
    (others (joined prio_of c line) ≡ joined prio_of c (others line))
joined-behind c line some le = grind arith

-- of these places b has the best message: of the highest priority the oldest
pub record IsBest (f : ℕ → Option Message) (ks : List ℕ) (b : ℕ) : Type 0 where
  pub inside : is_in ks b ≡ true
  pub first : (k : ℕ) → is_in ks k ≡ true →
      (prio_of (f k) < prio_of (f b)) ⊎ ((prio_of (f k) ≡ prio_of (f b)) × (b ≤ k))

pub in-cons : (k : ℕ) (ks : List ℕ) (j : ℕ) → is_in ks j ≡ true → is_in (k ∷ ks) j ≡ true
in-cons k ks j h = split (k == j) (λ t. rw t refl) (λ f. rw (f, h) refl)

pub in-first : (k : ℕ) (ks : List ℕ) → is_in (k ∷ ks) k ≡ true
in-first k ks = rw (eq-eqb k k refl) refl

pub any-line : (f : ℕ → Option Message) (ks : List ℕ) (b : ℕ) → is_in ks b ≡ true →
    any (lined prio_of (map f ks)) ≡ true
any-line f [] b h = absurd (cc)
any-line f (k ∷ ks) b h = any-joined prio_of (f k) (lined prio_of (map f ks))

all-below : (f : ℕ → Option Message) (ks : List ℕ) (n : ℕ) →
    ((k : ℕ) → is_in ks k ≡ true → prio_of (f k) < n) → IsBelow n (lined prio_of (map f ks))
all-below f [] n below = tt
all-below f (k ∷ ks) n below =
    below-joined n (f k) (lined prio_of (map f ks)) (below k (in-first k ks))
    (all-below f ks n (λ j h. below j (in-cons k ks j h)))

best-rest : (f : ℕ → Option Message) (k : ℕ) (ks : List ℕ) (b : ℕ) → IsBest f (k ∷ ks) b →
    (k == b) ≡ false → IsBest f ks b
best-rest f k ks b best other = grind (arith, in-cons)

-- a later message with the best priority would be behind the best one
best-alone : (f : ℕ → Option Message) (k : ℕ) (ks : List ℕ) → Falls (k ∷ ks) → IsBest f (k ∷ ks) k →
    IsBelow (prio_of (f k)) (lined prio_of (map f ks))
best-alone f k ks falls best = all-below f ks (prio_of (f k)) (λ j h.
    let below = falls.0 j h in
    elim (best.first j (in-cons k ks j h)) [
      | inl lt ↦ lt
      | inr e ↦ let k : ⊥ = omega
          (arith, e.1, below) in absurd k
    ])

no-less : (f : ℕ → Option Message) (k : ℕ) (ks : List ℕ) (b : ℕ) → IsBest f (k ∷ ks) b →
    prio_of (f k) ≤ prio_of (f b)
no-less f k ks b best = elim (best.first k (in-first k ks)) [
  | inl lt ↦ omega (arith, lt)
  | inr e ↦
      omega (arith, e.0)
]

-- The best message is the foremost in line, and the others stand behind it.
pub best-first : (f : ℕ → Option Message) (ks : List ℕ) (b : ℕ) → Falls ks → IsBest f ks b →
    (f b ≡ foremost (lined prio_of (map f ks))) × (lined prio_of (map f (without b ks)) ≡
    others (lined prio_of (map f ks)))
best-first f [] b falls best = let h = best.inside in absurd (cc)
best-first f (k ∷ ks) b falls best = split (k == b)
    (λ t. grind (arith, nat_tests, eqb-true, best-alone, eq-eqb, without-absent))
    (λ n. let rest = best-rest f k ks b best n in
    let other : (b == k) ≡ false = ne_eqb b k (λ is. eqb-false k b n (sym is)) in
    let is = best-first f ks b falls.1 rest in
    let less = no-less f k ks b best in
    let least : prio_of (f k) ≤ prio_of (foremost (lined prio_of (map f ks))) =
    subst (λ (o : Option Message). prio_of (f k) ≤ prio_of o) is.0 less in
    let behind = joined-behind (f k) (lined prio_of (map f ks))
    (any-line f ks b rest.inside) least in
    rw other (
      is.0 ∙ sym behind.0,
      ap (λ (line : List (Option Message)). joined prio_of (f k) line)
          is.1 ∙ sym behind.1,
    ))
