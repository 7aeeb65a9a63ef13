-- There are fewer levels than slots, so a level has room.
use Rattle.std.proofs.Common.{◌≡◌, ◌≢◌, ℕ, zero, suc, ◌+◌, ◌-◌, ◌<◌, ◌≤◌, ◌==◌, cond, ◌⊎◌, inl, inr, refl, ap, arith, eqb-true}
use Rattle.std.proofs.lemmas.Bool.{cases_eq, cases_lt, cases_Bool, eqb-false}
use Rattle.mq_slots.specs.Chains.{IsChained, IsLevelled}

-- the numbers of f, with the one at m in place of n
swapped : (ℕ → ℕ) → ℕ → ℕ → ℕ → ℕ
swapped f m n k = cond (f k == n) (f m) (f k)

-- it is the one at m, in place of n, or the one that f has
record Swapped (f : ℕ → ℕ) (m n k : ℕ) : Type 0 where
  pub from : ℕ
  pub is : swapped f m n k ≡ f from
  pub which : ((from ≡ m) × (f k ≡ n)) ⊎ ((from ≡ k) × (f k ≢ n))

swapped_of : (f : ℕ → ℕ) (m n k : ℕ) → Swapped f m n k
unfolding swapped
swapped_of f m n k = elim (cases_Bool (f k == n)) [
  | inl e ↦ record { from = m; is = rw e refl; which = inl (refl, eqb-true _ _ e) }
  | inr e ↦ record { from = k; is = rw e refl; which = inr (refl, eqb-false _ _ e) }
]

-- m numbers that differ are at most n, if all of them are below n
pub crowded : (n m : ℕ) (f : ℕ → ℕ) → ((k : ℕ) → k < m → f k < n) →
    ((a b : ℕ) → a < b → b < m → f a ≢ f b) → m ≤ n
crowded zero m f below apart = elim (cases_lt 0 m) [
  | inl h ↦ absurd (let bad = below 0 h in
      omega arith)
  | inr h ↦ h
]
crowded (suc n) zero f below apart = omega arith
crowded (suc n) (suc m) f below apart =
    let last : f m < suc n = below m (omega arith) in
    let rest : m ≤ n = crowded n m (swapped f m n)
    (λ k kl. (let w = swapped_of f m n k in let is = w.is in elim w.which [
      | inl h ↦ (let at : f w.from ≡ f m = ap f h.0 in let not = apart k m kl (omega arith) in
          let here = h.1 in omega arith)
      | inr h ↦ (let at : f w.from ≡ f k = ap f h.0 in let not = h.1 in let low = below k
          (omega arith) in omega arith)
    ]))
    (λ a b less bl e. (
    let v = swapped_of f m n a in let w = swapped_of f m n b in let is_v = v.is in let is_w =
    w.is in
    let not = apart a b less (omega arith) in
    let not_a = apart a m (omega arith) (omega arith) in
    let not_b = apart b m bl (omega arith) in
    elim v.which [
      | inl h ↦ (let at_v : f v.from ≡ f m = ap f h.0 in let here = h.1 in elim w.which [
        | inl g ↦ (let there = g.1 in omega arith)
        | inr g ↦ (let at_w : f w.from ≡ f b = ap f g.0 in omega arith)
      ])
      | inr h ↦ (let at_v : f v.from ≡ f a = ap f h.0 in elim w.which [
        | inl g ↦ (let at_w : f w.from ≡ f m = ap f g.0 in omega arith)
        | inr g ↦ (let at_w : f w.from ≡ f b = ap f g.0 in omega arith)
      ])
    ])) in
    omega arith

-- the last slots of the levels, and a spare one at the end
lasts : (ℕ → ℕ) → ℕ → ℕ → ℕ → ℕ
lasts ll m new k = cond (k == m) (new - 1) (ll k - 1)

record Last (ll : ℕ → ℕ) (m new k : ℕ) : Type 0 where
  pub from : ℕ
  pub is : lasts ll m new k ≡ from - 1
  pub which : ((from ≡ new) × (k ≡ m)) ⊎ ((from ≡ ll k) × (k ≢ m))

last_of : (ll : ℕ → ℕ) (m new k : ℕ) → Last ll m new k
unfolding lasts
last_of ll m new k = elim (cases_Bool (k == m)) [
  | inl e ↦ record { from = new; is = rw e refl; which = inl (refl, eqb-true _ _ e) }
  | inr e ↦ record { from = ll k; is = rw e refl; which = inr (refl, eqb-false _ _ e) }
]

-- if a slot is spare, there are fewer levels than slots for messages
pub levels-few : (n : ℕ) (p t nx : ℕ → ℕ) (m : ℕ) (lp ll : ℕ → ℕ) (new : ℕ) → IsChained n p t nx →
    IsLevelled n p t m lp ll → new < n → 32768 < p new → m + 1 < n
levels-few n p t nx m lp ll new chain levels within spare =
    let head = chain.head in
    let there = chain.there in
    let not_head : (i : ℕ) → p i ≢ 32768 →
    0 < i = λ i h. elim (cases_eq i 0) [
      | inl e ↦ absurd (let same : p i ≡ p 0 = ap p e in
          omega arith)
      | inr other ↦ omega arith
    ] in
    let new_high : 0 < new = not_head new (omega arith) in
    let high : (k : ℕ) → k < m →
    0 < ll k = λ k kl. (let level = levels.level k kl in let low = levels.low k kl in
    not_head (ll k) (omega arith)) in
    let apart_new : (k : ℕ) → k < m →
    ll k ≢ new = λ k kl e. (let same : p (ll k) ≡ p new = ap p e in let level = levels.level k
    kl in let low = levels.low k kl in omega arith) in
    let apart : (a b : ℕ) → a < b → b < m → ll a ≢ ll b = λ a b less bl e. (
    let same : p (ll a) ≡ p (ll b) = ap p e in
    let more = levels.rising a b less bl in let level_a = levels.level a (omega arith) in
    let level_b = levels.level b bl in omega arith) in
    let few : m + 1 ≤ n - 1 = crowded (n - 1) (m + 1) (lasts ll m new)
    (λ k kl. (let w = last_of ll m new k in let is = w.is in elim w.which [
      | inl h ↦ (let at = h.0 in omega arith)
      | inr h ↦ (let at = h.0 in let not = h.1 in let low = levels.within k (omega arith) in
          let some = high k (omega arith) in omega arith)
    ]))
    (λ a b less bl e. (
    let v = last_of ll m new a in let w = last_of ll m new b in let is_v = v.is in let is_w =
    w.is in
    elim v.which [
      | inl h ↦ (let at = h.1 in absurd (omega arith))
      | inr h ↦ (let at_v = h.0 in let some_a = high a (omega arith) in elim w.which [
        | inl g ↦ (let at_w = g.0 in let not = apart_new a (omega arith) in omega arith)
        | inr g ↦ (let at_w = g.0 in let far = g.1 in let some_b = high b (omega arith) in
            let not = apart a b less (omega arith) in omega arith)
      ])
    ])) in
    omega arith
