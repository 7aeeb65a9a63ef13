-- The places from which callers wait on a queue fall, so a loop that looks for the next lower one
-- finds them all.
use Rattle.std.proofs.Common.{◌≡◌, ℕ, ◌+◌, ◌<◌, ◌≤◌, ◌==◌, nat_lt, Bool, true, not, ◌⊎◌, inl, inr, List, [], ◌∷◌, ◌++◌, length, Option, Some, None, IfSome, refl, sym, ◌∙◌, ap, subst, arith, eqb-true, eq-eqb, append_assoc}
use Rattle.std.specs.List.{filter}
use Rattle.std.proofs.lemmas.Bool.{cases_lt, lt-ltb, le-ltb}
use Rattle.mq_model.specs.Record.{Past}
use Rattle.mq_model.specs.Legality.{Legal}
use Rattle.mq_model.specs.Messages.{is_in, blocked_sends, blocked_receives}
use Rattle.mq_model.specs.Callers.{CallersMirror, blocked, pending_in, waiting}
use Rattle.mq_model.specs.declared.callers.Caller.{Caller}
use Rattle.mq_model.specs.declared.callers.WaitKind.{WaitKind}
use Rattle.mq_model.specs.declared.callers.WaitKind.TheVariants.{Send, Receive}
use Rattle.mq_model.proofs.CallerLines.{pending_in-past}
use Rattle.mq_model.proofs.NamedWaits.{blocked-below}
use Rattle.mq_model.proofs.Pending.{pending-waits, waits-pending}
use Rattle.mq_model.proofs.Places.{split, is_in-filter}
use Rattle.mq_model.proofs.Waiters.{ended_waits, waiting-filter}
use Rattle.mq_state.specs.Waiting.{IsLastWait, later}

-- the greatest place below a bound, among the first callers ---------------------------------------

abbrev pub IsLastBelow : List Caller → ℕ → WaitKind → ℕ → ℕ → Option ℕ → Type 0
IsLastBelow callers q kind bound i None = (k w : ℕ) → k < i → pending_in callers k q kind ≡ Some w →
    bound ≤ w
IsLastBelow callers q kind bound i (Some v) =
    (v < bound) × ((k : ℕ) × (pending_in callers k q kind ≡ Some v)) ×
    ((k w : ℕ) → k < i → pending_in callers k q kind ≡ Some w → w < bound → w ≤ v)

newest : (callers : List Caller) (q : ℕ) (kind : WaitKind) (i k : ℕ) (new : Option ℕ) (v : ℕ) →
    new ≡ pending_in callers i q kind → i ≤ k → k < i + 1 → pending_in callers k q kind ≡ Some v →
    new ≡ Some v
newest callers q kind i k new v is le lt e = let same : i ≡ k = omega (arith, le, lt) in is ∙
    ap (λ j. pending_in callers j q kind) same ∙ e

pub last-more : (callers : List Caller) (q : ℕ) (kind : WaitKind) (bound i : ℕ)
    (last new : Option ℕ) → IsLastBelow callers q kind bound i last →
    new ≡ pending_in callers i q kind →
    IsLastBelow callers q kind bound (i + 1) (later last new bound)
last-more callers q kind bound i None None before is = λ k v lt e. elim (cases_lt k i) [
  | inl g ↦ before k v g e
  | inr g ↦ absurd (let bad = newest callers q kind i k None v is g lt e in cc)
]
last-more callers q kind bound i (Some u) None before is = (
  before.0,
  before.1,
  λ k v lt e c. elim (cases_lt k i) [
    | inl g ↦ before.2 k v g e c
    | inr g ↦ absurd (let bad = newest callers q kind i k None v is g lt e in cc)
  ],
)
last-more callers q kind bound i None (Some w) before is = elim (cases_lt w bound) [
  | inl b ↦ rw (lt-ltb w bound b) (
    b,
    (i, sym is),
    λ k v lt e c. elim (cases_lt k i) [
      | inl g ↦ let le = before k v g e in absurd (omega (arith, le, c))
      | inr g ↦ let same : w ≡ v = let some = newest callers q kind i k (Some w) v is g lt e in
          cc in omega (arith, same)
    ],
  )
  | inr b ↦ rw (le-ltb w bound b) (λ k v lt e. elim (cases_lt k i) [
    | inl g ↦ before k v g e
    | inr g ↦ let same : w ≡ v = let some = newest callers q kind i k (Some w) v is g lt e in cc in
        omega (arith, same, b)
  ])
]
last-more callers q kind bound i (Some u) (Some w) before is = elim (cases_lt u w) [
  | inl a ↦ elim (cases_lt w bound) [
    | inl b ↦ rw (lt-ltb u w a, lt-ltb w bound b) (
      b,
      (i, sym is),
      λ k v lt e c. elim (cases_lt k i) [
        | inl g ↦ let le = before.2 k v g e c in omega (arith, le, a)
        | inr g ↦ let same : w ≡ v = let some = newest callers q kind i k (Some w) v is g lt e in
            cc in omega (arith, same)
      ],
    )
    | inr b ↦ rw (lt-ltb u w a, le-ltb w bound b) (
      before.0,
      before.1,
      λ k v lt e c. elim (cases_lt k i) [
        | inl g ↦ before.2 k v g e c
        | inr g ↦ let same : w ≡ v = let some = newest callers q kind i k (Some w) v is g lt e in
            cc in absurd (omega (arith, same, b, c))
      ],
    )
  ]
  | inr a ↦ rw (le-ltb u w a) (
    before.0,
    before.1,
    λ k v lt e c. elim (cases_lt k i) [
      | inl g ↦ before.2 k v g e c
      | inr g ↦ let same : w ≡ v = let some = newest callers q kind i k (Some w) v is g lt e in
          cc in omega (arith, same, a)
    ],
  )
]

-- no caller past the end of the table waits
none-past : (callers : List Caller) (q : ℕ) (kind : WaitKind) (i k w : ℕ) → length callers ≤ i →
    i ≤ k → pending_in callers k q kind ≡ Some w → ⊥
none-past callers q kind i k w all le is = let none : None ≡ Some w =
    sym (pending_in-past callers k q kind (omega (arith, all, le))) ∙ is in cc

pub last-none : (callers : List Caller) (q : ℕ) (kind : WaitKind) (bound i : ℕ) (o : Option ℕ) →
    IsLastBelow callers q kind bound i o → length callers ≤ i → o ≡ None → (p w : ℕ) →
    pending_in callers p q kind ≡ Some w → bound ≤ w
last-none callers q kind bound i None last all e p w is = elim (cases_lt p i) [
  | inl g ↦ last p w g is
  | inr g ↦ absurd (none-past callers q kind i p w all g is)
]
last-none callers q kind bound i (Some v) last all e p w is = absurd (cc)

pub last-some : (callers : List Caller) (q : ℕ) (kind : WaitKind) (bound i : ℕ) (o : Option ℕ) →
    IsLastBelow callers q kind bound i o → length callers ≤ i →
    IfSome o (IsLastWait callers q kind bound)
last-some callers q kind bound i None last all = tt
last-some callers q kind bound i (Some v) last all = record {
  caller = last.1.0;
  waits = last.1.1;
  below = last.0;
  last = λ k w is lt. elim (cases_lt k i) [
    | inl g ↦ last.2 k w g is lt
    | inr g ↦ absurd (none-past callers q kind i k w all g is)
  ];
}

-- falling lists -----------------------------------------------------------------------------------

abbrev Falls : List ℕ → Type 0
Falls [] = Unit {0}
Falls (k ∷ ks) = ((j : ℕ) → is_in ks j ≡ true → j < k) × Falls ks

falls-filter : (t : ℕ → Bool) (xs : List ℕ) → Falls xs → Falls (filter t xs)
falls-filter t [] falls = tt
falls-filter t (x ∷ xs) falls = split (t x)
    (λ y. rw y ((λ j h. falls.0 j (is_in-filter t xs j h).0), falls-filter t xs falls.1))
    (λ n. rw n (falls-filter t xs falls.1))

falls-blocked : (past : Past) (kind : WaitKind) (q : ℕ) → Falls (blocked past kind q)
falls-blocked [] Send q = tt
falls-blocked [] Receive q = tt
falls-blocked (r ∷ past) Send q = grind (
  arith,
  falls-blocked past Send q,
  blocked-below past Send q,
)
falls-blocked (r ∷ past) Receive q = grind (
  arith,
  falls-blocked past Receive q,
  blocked-below past Receive q,
)

falls-waiting : (past : Past) (kind : WaitKind) (q : ℕ) → Falls (waiting past kind q)
falls-waiting past kind q = subst Falls (sym (waiting-filter past kind q))
    (falls-filter (λ w. not (is_in (ended_waits past kind) w)) (blocked past kind q)
    (falls-blocked past kind q))

abbrev pub below : ℕ → List ℕ → List ℕ
below bound xs = filter (λ w. nat_lt w bound) xs

in-rest : (x : ℕ) (xs : List ℕ) (k : ℕ) → is_in xs k ≡ true → is_in (x ∷ xs) k ≡ true
in-rest x xs k h = split (x == k) (λ e. rw e refl) (λ n. rw (n, h) refl)

in-head : (x : ℕ) (xs : List ℕ) → is_in (x ∷ xs) x ≡ true
in-head x xs = rw (eq-eqb x x refl) refl

below-all : (bound : ℕ) (xs : List ℕ) → ((k : ℕ) → is_in xs k ≡ true → k < bound) →
    below bound xs ≡ xs
below-all bound [] all = refl
below-all bound (x ∷ xs) all = rw (lt-ltb x bound (all x (in-head x xs)))
    (ap (λ rest. x ∷ rest) (below-all bound xs (λ k h. all k (in-rest x xs k h))))

below-none : (bound : ℕ) (xs : List ℕ) → ((k : ℕ) → is_in xs k ≡ true → bound ≤ k) →
    below bound xs ≡ []
below-none bound [] none = refl
below-none bound (x ∷ xs) none = rw (le-ltb x bound (none x (in-head x xs)))
    (below-none bound xs (λ k h. none k (in-rest x xs k h)))

-- the greatest place below a bound comes first
below-last : (xs : List ℕ) → Falls xs → (m bound : ℕ) → is_in xs m ≡ true → m < bound →
    ((k : ℕ) → is_in xs k ≡ true → k < bound → k ≤ m) → below bound xs ≡ m ∷ below m xs
below-last [] falls m bound h lt last = absurd (cc)
below-last (x ∷ xs) falls m bound h lt last = split (x == m)
    (λ e. let same : x ≡ m = eqb-true _ _ e in
    let high = below-all bound xs (λ k g. let less = falls.0 k g in omega (arith, less, same, lt))
    in
    let low = below-all m xs (λ k g. let less = falls.0 k g in omega (arith, less, same)) in
    rw (lt-ltb x bound (omega (arith, same, lt)), le-ltb x m (omega (arith, same)), high, low)
    (ap (λ k. k ∷ xs) same))
    (λ n. let inside : is_in xs m ≡ true = rw n at h in
    let above = falls.0 m inside in
    let high : bound ≤ x = elim (cases_lt x bound) [
      | inl t ↦ let le = last x (in-head x xs) t in absurd (omega (arith, le, above))
      | inr f ↦ f
    ] in
    rw (le-ltb x bound high, le-ltb x m (omega (arith, above)))
    (below-last xs falls.1 m bound inside lt (λ k g. last k (in-rest x xs k g))))

-- the places that wait, from the latest on --------------------------------------------------------

pub waiting-start : (past : Past) (kind : WaitKind) (q n : ℕ) → n ≡ length past →
    [] ++ below n (waiting past kind q) ≡ waiting past kind q
waiting-start past kind q n is =
    below-all n (waiting past kind q)
    (λ k h. let at : is_in (filter (λ w. not (is_in (ended_waits past kind) w))
    (blocked past kind q)) k ≡ true = rw (waiting-filter past kind q) at h in
    let lt = blocked-below past kind q k (is_in-filter _ (blocked past kind q) k at).0 in
    omega (arith, lt, is))

pub waiting-more : (past : Past) (callers : List Caller) → CallersMirror past callers → Legal past →
    (q : ℕ) (kind : WaitKind) (bound place : ℕ) (found : List ℕ) →
    IsLastWait callers q kind bound place →
    found ++ below bound (waiting past kind q) ≡ waiting past kind q →
    (found ++ place ∷ []) ++ below place (waiting past kind q) ≡ waiting past kind q
waiting-more past callers mirror legal q kind bound place found last before =
    let first = below-last (waiting past kind q) (falls-waiting past kind q) place bound
    (pending-waits past callers mirror legal last.caller q kind place last.waits) last.below
    (λ k h lt. let x = waits-pending past callers mirror legal q kind k h in last.last x.0 k x.1 lt)
    in
    append_assoc found (place ∷ []) (below place (waiting past kind q)) ∙ ap (λ xs. found ++ xs)
    (sym first) ∙ before

pub waiting-done : (past : Past) (callers : List Caller) → CallersMirror past callers → Legal past →
    (q : ℕ) (kind : WaitKind) (bound : ℕ) (found : List ℕ) →
    ((p w : ℕ) → pending_in callers p q kind ≡ Some w → bound ≤ w) →
    found ++ below bound (waiting past kind q) ≡ waiting past kind q → found ≡ waiting past kind q
waiting-done past callers mirror legal q kind bound found none all =
    let rest = below-none bound (waiting past kind q) (λ k h. let x = waits-pending past callers
    mirror legal q kind k h in none x.0 k x.1) in
    append-none found _ rest ∙ all
  where
    append-none : (xs ys : List ℕ) → ys ≡ [] → xs ≡ xs ++ ys
    append-none [] ys none = sym none
    append-none (x ∷ xs) ys none = ap (λ rest. x ∷ rest) (append-none xs ys none)
