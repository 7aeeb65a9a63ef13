-- The first records of a linearization: those of what began by a time.
use Rattle.std.proofs.lemmas.Bool.Decides.{nat_tests}
use Rattle.std.proofs.Common.{◌≡◌, ℕ, ◌≤◌, ◌<◌, zero, suc, Bool, true, not, [], ◌∷◌, length, Option, Some, None, ◌⊎◌, inl, inr, refl, sym, arith, subst, ltb-false}
use Rattle.std.proofs.lemmas.Bool.{and_parts, cases_lt, lt-ltb}
use Rattle.mq_model.specs.Record.{Record, Past}
use Rattle.histories.specs.declared.operation.Operation.{Operation}
use Rattle.histories.specs.Histories.{Histories, are_through, current_of, ended_before, is_complete, is_through, none_ended}
use Rattle.histories.specs.Linearizations.{ComesFrom, IsLinearization}
use Rattle.histories.specs.Excess.{returns_after}

-- the operation of each record began by this time
abbrev pub AreBegun : (time : ℕ) (histories : Histories) (past : Past) →
    IsLinearization histories past → Type 0
AreBegun time histories [] linear = Unit {0}
AreBegun time histories (r ∷ past) linear = AreBegun time histories past linear.0 ×
    (linear.2.operation.begin ≤ time)

-- these are the first records of a longer journal, or all of them
abbrev pub Ends : Past → Past → Type 0
Ends part [] = part ≡ []
Ends part (r ∷ past) = (part ≡ r ∷ past) ⊎ Ends part past

pub ends-self : (past : Past) → Ends past past
ends-self [] = refl
ends-self (r ∷ past) = inl refl

pub ends-trans : (a b c : Past) → Ends a b → Ends b c → Ends a c
ends-trans a b [] first second = subst (λ (x : Past). Ends a x) second first
ends-trans a b (r ∷ c) first second = elim second [
  | inl same ↦ subst (λ (x : Past). Ends a x) same first
  | inr older ↦ inr (ends-trans a b c first older)
]

-- and so are those before the last of them
pub ends-older : (r : Record) (part past : Past) → Ends (r ∷ part) past → Ends part past
ends-older r part [] ends = absurd (let bad : r ∷ part ≡ [] = ends in cc)
ends-older r part (s ∷ past) ends = elim ends [
  | inl same ↦ let tails : part ≡ past = cc in inr (subst (λ (x : Past). Ends x past) (sym tails)
      (ends-self past))
  | inr older ↦ inr (ends-older r part past older)
]

pub ends-length : (part past : Past) → Ends part past → length part ≤ length past
ends-length part [] ends = rw ends (omega arith)
ends-length part (r ∷ past) ends = elim ends [
  | inl same ↦ rw same (omega arith)
  | inr older ↦ let le = ends-length part past older in omega (arith, le)
]

-- no operation is left that had returned by this time
abbrev pub is_through_by : ℕ → Option Operation → Bool
is_through_by time None = true
is_through_by time (Some o) = returns_after time o

-- a linearization of what began by this time, with all that had returned by then
pub record IsCut (time : ℕ) (histories : Histories) (past : Past) : Type 0 where
  pub part : Past
  pub ends : Ends part past
  pub linear : IsLinearization histories part
  pub begun : AreBegun time histories part linear
  pub through : (i : ℕ) → i < length histories → is_through_by time (current_of histories part i) ≡
      true

not-before : (o : Option Operation) (begin time : ℕ) → not (ended_before begin o) ≡ true →
    time < begin → is_through_by time o ≡ true
not-before o begin time late less = grind (arith, ltb-false, lt-ltb)

pub none-left : (histories : Histories) (past : Past) (begin time n i : ℕ) →
    none_ended histories past begin n ≡ true → time < begin → i < n →
    is_through_by time (current_of histories past i) ≡ true
none-left histories past begin time zero i none less below = absurd (omega (arith, below))
none-left histories past begin time (suc n) i none less below =
    let parts = and_parts (none_ended histories past begin n)
    (not (ended_before begin (current_of histories past n))) none in
    elim (cases_lt i n) [
      | inl inside ↦ none-left histories past begin time n i parts.0 less inside
      | inr last ↦
          let e : n ≡ i = omega (arith, below, last) in
          let here = not-before (current_of histories past n) begin time parts.1 less in
          subst (λ k. is_through_by time (current_of histories past k) ≡ true) e here
    ]

begun-or-cut : (time : ℕ) (histories : Histories) (past : Past)
    (linear : IsLinearization histories past) →
    AreBegun time histories past linear ⊎ IsCut time histories past
begun-or-cut time histories [] linear = inl tt
begun-or-cut time histories (r ∷ past) linear = elim (begun-or-cut time histories past linear.0) [
  | inr c ↦ inr (record {
    part = c.part;
    ends = inr c.ends;
    linear = c.linear;
    begun = c.begun;
    through = c.through;
  })
  | inl begun ↦
      let from : ComesFrom histories past r = linear.2 in
      elim (cases_lt time from.operation.begin) [
        | inl late ↦ grind (arith, nat_tests, ends-self, none-left)
        | inr by_then ↦ inl (begun, by_then)
      ]
]

pub through-each : (histories : Histories) (past : Past) (n i : ℕ) →
    are_through histories past n ≡ true → i < n → is_through (current_of histories past i) ≡ true
through-each histories past zero i through below = absurd (omega (arith, below))
through-each histories past (suc n) i through below =
    let parts = and_parts (are_through histories past n) (is_through (current_of histories past n))
    through in
    elim (cases_lt i n) [
      | inl less ↦ through-each histories past n i parts.0 less
      | inr last ↦
          let e : n ≡ i = omega (arith, below, last) in
          subst (λ k. is_through (current_of histories past k) ≡ true) e parts.1
    ]

through-by : (o : Option Operation) (time : ℕ) → is_through o ≡ true → is_through_by time o ≡ true
through-by o time e = grind arith

-- each complete linearization has such a part
pub cut : (time : ℕ) (histories : Histories) (past : Past) → IsLinearization histories past →
    is_complete histories past ≡ true → IsCut time histories past
cut time histories past linear complete = elim (begun-or-cut time histories past linear) [
  | inr part ↦ part
  | inl begun ↦ grind (arith, nat_tests, ends-self, through-by, through-each)
]
