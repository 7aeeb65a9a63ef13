-- A linearization of operations that end in their order agrees with real time.
use Rattle.std.proofs.lemmas.Bool.Decides.{nat_tests}
use Rattle.std.proofs.Common.{◌≡◌, ℕ, ◌+◌, ◌-◌, ◌≤◌, ◌<◌, ◌==◌, zero, suc, Bool, true, false, inl, inr, List, [], ◌∷◌, length, Option, Some, None, subst, arith, if◌then◌else◌, slice_get, get_or, Vec, Global}
use Rattle.std.specs.Option.{option_and_then}
use Rattle.std.proofs.lemmas.Bool.{cases_lt, eqb-true, lt-ltb, ne_eqb, and_parts}
use Rattle.std.proofs.lemmas.Option.{slice_get_within, slice_get-get_or}
use Rattle.mq_model.specs.Record.{Record, Past, Process, Place}
use Rattle.mq_model.specs.Legality.{IsLegalNext}
use Rattle.mq_model.proofs.Places.{split}
use Rattle.histories.proofs.OwnCalls.{turn-of-own, some-of-none}
use Rattle.histories.specs.declared.operation.Operation.{Operation}
use Rattle.histories.specs.Histories.{Histories, completed, current_of, none_ended}
use Rattle.histories.specs.Linearizations.{ComesFrom, IsLinearization}
use Rattle.histories.specs.RealTime.{operation_at, EndInOrder, operation_of, AgreesWithRealTime}

-- no process completes fewer operations later -----------------------------------------------------

count-below : (waits : Bool) (n : ℕ) → (if waits then n - 1 else n) ≤ n
count-below waits n = grind arith

count-above : (waits : Bool) (n : ℕ) → n ≤ (if waits then n + 1 - 1 else n + 1)
count-above waits n = grind arith

pub completed-grows : (past : Past) (r : Record) (p : Process) → IsLegalNext past r →
    completed past p ≤ completed (r ∷ past) p
completed-grows past r p legal = grind (
  arith,
  nat_tests,
  eqb-true,
  count-below,
  turn-of-own,
  some-of-none,
  count-above,
)

-- and operations that end in their order end no earlier later -------------------------------------

-- an operation comes before each that is one
some-below : {A : Type 0} (xs : List A) (m n : ℕ) (x : A) → m ≤ n → slice_get xs n ≡ Some x →
    (y : A) × (slice_get xs m ≡ Some y)
some-below xs m n x below is =
    let within : n < length xs = slice_get_within xs n x is in
    (get_or xs m x, slice_get-get_or xs m x (omega (arith, within, below)))

operation-below : (histories : Histories) (index m n : ℕ) (operation : Operation) → m ≤ n →
    operation_at histories index n ≡ Some operation →
    (o : Operation) × (operation_at histories index m ≡ Some o)
operation-below histories index m n operation below is =
    let goes : (v : Option (Vec Operation Global)) →
    option_and_then (λ (operations : Vec Operation Global). slice_get operations.items n) v ≡
    Some operation →
    (o : Operation) ×
    (option_and_then (λ (operations : Vec Operation Global). slice_get operations.items m) v ≡
    Some o) =
    λ (v : Option (Vec Operation Global)). elim v as
    (λ v. option_and_then (λ (operations : Vec Operation Global). slice_get operations.items n)
    v ≡ Some operation →
    (o : Operation) ×
    (option_and_then (λ (operations : Vec Operation Global). slice_get operations.items m) v ≡
    Some o)) [
      | None ↦ (λ h. let k : ⊥ = cc in absurd k)
      | Some operations ↦ (λ h. some-below operations.items m n operation below h)
    ]
    in
    goes (slice_get histories index) is

-- a time by which the m-th operation of a process has not ended, and so none of the later ones
later-ends : (histories : Histories) → EndInOrder histories →
    (index moment m more : ℕ) (operation : Operation) → operation_at histories index (m + more) ≡
    Some operation →
    ((o : Operation) → operation_at histories index m ≡ Some o → moment ≤ o.end) →
    moment ≤ operation.end
later-ends histories ordered index moment m zero operation is at = grind arith
later-ends histories ordered index moment m (suc more) operation is at =
    let number : m + suc more ≡ m + more + 1 = omega arith in
    let here : operation_at histories index (m + more + 1) ≡ Some operation =
    subst (λ (k : ℕ). operation_at histories index k ≡ Some operation) number is in
    let last = operation-below histories index (m + more) (m + more + 1) operation
    (omega arith) here in
    let before : moment ≤ last.0.end = later-ends histories ordered index moment m more
    last.0 last.1 at in
    let next : last.0.end ≤ operation.end = ordered index (m + more) last.0 operation last.1 here in
    omega (arith, before, next)

-- a time by which the current operation of no process has ended
abbrev NotEnded : Histories → Past → ℕ → Type 0
NotEnded histories past moment = (index : ℕ) (operation : Operation) →
    current_of histories past index ≡ Some operation → moment ≤ operation.end

not-ended-later : (histories : Histories) (past : Past) (r : Record) (moment : ℕ) →
    EndInOrder histories → IsLegalNext past r → NotEnded histories past moment →
    NotEnded histories (r ∷ past) moment
not-ended-later histories past r moment ordered legal not_ended index operation is =
    let m = completed past (index + 1) in
    let n = completed (r ∷ past) (index + 1) in
    let grows : m ≤ n = completed-grows past r (index + 1) legal in
    let number : n ≡ m + (n - m) = omega (arith, grows) in
    let at : operation_at histories index (m + (n - m)) ≡ Some operation =
    subst (λ (k : ℕ). operation_at histories index k ≡ Some operation) number is in
    later-ends histories ordered index moment m (n - m) operation at
    (λ (o : Operation) here. not_ended index o here)

-- each two records --------------------------------------------------------------------------------

not-ended-of : (histories : Histories) (past : Past) (moment n index : ℕ) (operation : Operation) →
    index < n → none_ended histories past moment n ≡ true →
    current_of histories past index ≡ Some operation → moment ≤ operation.end
not-ended-of histories past moment zero index operation below none is = let k : ⊥ = omega arith in
    absurd k
not-ended-of histories past moment (suc n) index operation below none is =
    let parts = and_parts _ _ none in
    elim (cases_lt index n) [
      | inl less ↦ not-ended-of histories past moment n index operation less parts.0 is
      | inr last ↦
          grind (arith, nat_tests, cases_lt, lt-ltb)
    ]

-- when a record is made, no current operation has ended before that of the record began
record-in-time : (histories : Histories) (past : Past) (r : Record) (operation : Operation) →
    ComesFrom histories past r → current_of histories past (r.entry.process - 1) ≡ Some operation →
    NotEnded histories past operation.begin
record-in-time histories past r operation from is index o at =
    grind (arith, not-ended-of, slice_get_within)

-- and none has at any later time
record-stays-in-time : (histories : Histories) → EndInOrder histories → (past : Past) →
    IsLinearization histories past → (i : Place) (operation : Operation) →
    operation_of histories past i ≡ Some operation →
    NotEnded histories past operation.begin
record-stays-in-time histories ordered [] linear i operation is = let k : ⊥ = cc in absurd k
record-stays-in-time histories ordered (r ∷ past) linear i operation is = split (i == length past)
    (λ last.
    let here : current_of histories past (r.entry.process - 1) ≡ Some operation = rw last at is in
    not-ended-later histories past r operation.begin ordered linear.1
    (record-in-time histories past r operation linear.2 here))
    (λ older.
    let here : operation_of histories past i ≡ Some operation = rw older at is in
    not-ended-later histories past r operation.begin ordered linear.1
    (record-stays-in-time histories ordered past linear.0 i operation here))

operation-within : (histories : Histories) (past : Past) (i : Place) (operation : Operation) →
    operation_of histories past i ≡ Some operation → i < length past
operation-within histories [] i operation is = let k : ⊥ = cc in absurd k
operation-within histories (r ∷ past) i operation is = split (i == length past)
    (λ last. let e : i ≡ length past = eqb-true _ _ last in omega (arith, e))
    (λ older.
    let here : operation_of histories past i ≡ Some operation = rw older at is in
    let within : i < length past = operation-within histories past i operation here in
    omega (arith, within))

pub linearization-agrees : (histories : Histories) → EndInOrder histories → (past : Past) →
    IsLinearization histories past → AgreesWithRealTime histories past
linearization-agrees histories ordered [] linear i j before behind less first second = let k : ⊥ =
    cc in absurd k
linearization-agrees histories ordered (r ∷ past) linear i j before behind less first second =
    split (j == length past)
    (λ last.
    let e : j ≡ length past = eqb-true _ _ last in
    let apart : (i == length past) ≡ false = ne_eqb i (length past)
    (λ same. omega (arith, same, e, less)) in
    let older : operation_of histories past i ≡ Some before = rw apart at first in
    let here : current_of histories past (r.entry.process - 1) ≡ Some behind = rw last at second in
    record-stays-in-time histories ordered past linear.0 i before older
    (r.entry.process - 1) behind here)
    (λ earlier.
    let there : operation_of histories past j ≡ Some behind = rw earlier at second in
    let within : j < length past = operation-within histories past j behind there in
    let apart : (i == length past) ≡ false = ne_eqb i (length past)
    (λ same. omega (arith, same, within, less)) in
    let older : operation_of histories past i ≡ Some before = rw apart at first in
    linearization-agrees histories ordered past linear.0 i j before behind less older there)
