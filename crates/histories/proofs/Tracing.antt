-- The operations of the records of a linearization.
use Rattle.std.proofs.Common.{◌≡◌, ℕ, ◌+◌, ◌≤◌, ◌<◌, ◌==◌, true, false, [], ◌∷◌, length, Some, None, inl, inr, refl, sym, ◌∙◌, ap, subst, arith, if◌then◌else◌, eqb-true, eq-eqb}
use Rattle.std.proofs.lemmas.Bool.{cases_lt, eqb-false}
use Rattle.mq_model.specs.Record.{Record, Past, record_at}
use Rattle.mq_model.specs.Waits.{is_wait, open_wait}
use Rattle.mq_model.specs.Legality.{IsLegalNext, Legal}
use Rattle.mq_model.proofs.Frames.{record_at-older}
use Rattle.mq_model.proofs.Places.{split}
use Rattle.mq_model.proofs.Prefixes.{record_at-below}
use Rattle.histories.specs.OwnCalls.{ends_wait, made}
use Rattle.histories.specs.declared.operation.Operation.{Operation}
use Rattle.histories.specs.Histories.{Histories, completed, current_of, none_ended}
use Rattle.histories.specs.Outcomes.{fits}
use Rattle.histories.specs.Linearizations.{ComesFrom, IsCallOf, IsLinearization}
use Rattle.histories.specs.RealTime.{operation_at}
use Rattle.histories.proofs.Completing.{completed-free, completed-other, free, made-other, made-own, made-same}
use Rattle.histories.proofs.Cutting.{AreBegun, Ends}

pub legal-linear : (histories : Histories) (past : Past) → IsLinearization histories past →
    Legal past
legal-linear histories [] linear = tt
legal-linear histories (r ∷ past) linear = (legal-linear histories past linear.0, linear.1)

-- a record that ends no wait is that of its operation
pub own-call : (histories : Histories) (past : Past) (r : Record)
    (from : ComesFrom histories past r) → ends_wait r.entry.call ≡ false → IsCallOf r from.operation
own-call histories past r from own = grind arith

-- the current operation of another process stays
pub current-other : (histories : Histories) (past : Past) (r : Record) (i : ℕ) →
    (r.entry.process == i + 1) ≡ false →
    current_of histories (r ∷ past) i ≡ current_of histories past i
current-other histories past r i other = ap (λ (n : ℕ). operation_at histories i n) (rw other refl)

-- the record at this place is of the call of the k-th operation of a process
pub record IsCallAt (time : ℕ) (histories : Histories) (past : Past)
    (index k place : ℕ) : Type 0 where
  pub before : Past
  pub r : Record
  pub linear : IsLinearization histories (r ∷ before)
  pub begun : AreBegun time histories (r ∷ before) linear
  pub ends : Ends (r ∷ before) past
  pub at : length before ≡ place
  pub of : linear.2.index ≡ index
  pub number : completed before (index + 1) ≡ k
  pub own : ends_wait r.entry.call ≡ false

abbrev pub call-older : (time : ℕ) (histories : Histories) (past : Past) (r : Record)
    (index k place : ℕ) → IsCallAt time histories past index k place →
    IsCallAt time histories (r ∷ past) index k place
call-older time histories past r index k place x = record {
  before = x.before;
  r = x.r;
  linear = x.linear;
  begun = x.begun;
  ends = inr x.ends;
  at = x.at;
  of = x.of;
  number =
      x.number;
  own = x.own;
}

-- the operation in which a process waits, and the record of its call
pub record IsWaiting (time : ℕ) (histories : Histories) (past : Past) (p w : ℕ) : Type 0 where
  pub index : ℕ
  pub process : p ≡ index + 1
  pub operation : Operation
  pub is : current_of histories past index ≡ Some operation
  pub begun : operation.begin ≤ time
  pub r : Record
  pub at : record_at past w ≡ Some r
  pub call : IsCallOf r operation
  pub waits : is_wait r.entry.reply ≡ true
  pub placed : IsCallAt time histories past index (completed past (index + 1)) w

pub ending-waits-not : (past : Past) (r : Record) → IsLegalNext past r →
    is_wait r.entry.reply ≡ true → ends_wait r.entry.call ≡ false
ending-waits-not past r legal waits = grind arith

pub waits-for : (time : ℕ) (histories : Histories) (past : Past)
    (linear : IsLinearization histories past) → AreBegun time histories past linear → (p w : ℕ) →
    open_wait past p ≡ Some w → IsWaiting time histories past p w
waits-for time histories [] linear begun p w is = absurd (let bad : None ≡ Some w = is in cc)
waits-for time histories (r ∷ past) linear begun p w is = split (r.entry.process == p)
    (λ own.
    let mine : r.entry.process ≡ p = eqb-true _ _ own in
    let last : (if is_wait r.entry.reply then Some (length past) else None) ≡ Some w =
    rw own at is in
    split (is_wait r.entry.reply)
    (λ waits.
    let here : Some (length past) ≡ Some w = rw waits at last in
    let place : length past ≡ w = cc in
    let from : ComesFrom histories past r = linear.2 in
    let mine_too : r.entry.process ≡ from.index + 1 = from.process in
    let quiet = ending-waits-not past r linear.1 waits in
    let none = free past r (from.index + 1) from.process linear.1 quiet in
    let number : completed past (from.index + 1) ≡ made past (from.index + 1) =
    completed-free past (from.index + 1) none in
    let more : made (r ∷ past) (from.index + 1) ≡ made past (from.index + 1) + 1 =
    made-own past r (from.index + 1) from.process quiet in
    let still : completed (r ∷ past) (from.index + 1) ≡ completed past (from.index + 1) =
    rw (number, more, eq-eqb r.entry.process (from.index + 1) from.process, waits) (omega arith) in
    record {
      index = from.index;
      process = sym mine ∙ mine_too;
      operation = from.operation;
      is = ap (λ (n : ℕ). operation_at histories from.index n) still ∙ from.is;
      begun = begun.1;
      r = r;
      at = rw (eq-eqb w (length past) (sym place)) refl;
      call = own-call histories past r from quiet;
      waits = waits;
      placed = record {
        before = past;
        r = r;
        linear = linear;
        begun = begun;
        ends = inl refl;
        at = place;
        of = refl;
        number = sym still;
        own = quiet;
      };
    })
    (λ f. let bad : None ≡ Some w = rw f at last in absurd (cc)))
    (λ other.
    let old : open_wait past p ≡ Some w = rw other at is in
    let x = waits-for time histories past linear.0 begun.0 p w old in
    let apart : (r.entry.process == x.index + 1) ≡ false =
    subst (λ (k : ℕ). (r.entry.process == k) ≡ false) x.process other in
    record {
      index = x.index;
      process = x.process;
      operation = x.operation;
      is = current-other histories past r x.index apart ∙ x.is;
      begun = x.begun;
      r = x.r;
      at = record_at-older past r w (record_at-below past w x.r x.at) ∙ x.at;
      call = x.call;
      waits = x.waits;
      placed = record {
        before = x.placed.before;
        r = x.placed.r;
        linear = x.placed.linear;
        begun = x.placed.begun;
        ends = inr x.placed.ends;
        at = x.placed.at;
        of = x.placed.of;
        number = x.placed.number ∙ sym (completed-other past r (x.index + 1) (eqb-false _ _ apart));
        own = x.placed.own;
      };
    })

-- the record of the call of an operation, with those before it
pub record IsMade (time : ℕ) (histories : Histories) (part : Past) (index k : ℕ)
    (operation : Operation) : Type 0 where
  pub place : ℕ
  pub placed : IsCallAt time histories part index k place
  pub call : IsCallOf placed.r operation
  pub fits : fits placed.before placed.r.entry.reply operation.outcome ≡ true
  pub in_time : none_ended histories placed.before operation.begin (length histories) ≡ true

-- each operation that a process has begun has such a record
pub made-record : (time : ℕ) (histories : Histories) (past : Past)
    (linear : IsLinearization histories past) → AreBegun time histories past linear →
    (index k : ℕ) (operation : Operation) →
    operation_at histories index k ≡ Some operation → k < made past (index + 1) →
    IsMade time histories past index k operation
made-record time histories [] linear begun index k operation is below =
    absurd (omega (arith, below))
made-record time histories (r ∷ past) linear begun index k operation is below =
    elim (cases_lt k (made past (index + 1))) [
      | inl before ↦
          let x = made-record time histories past linear.0 begun.0 index k operation is before in
          record {
            place = x.place;
            placed = call-older time histories past r index k x.place x.placed;
            call = x.call;
            fits = x.fits;
            in_time = x.in_time;
          }
      | inr after ↦ split (r.entry.process == index + 1)
          (λ own.
          let mine : r.entry.process ≡ index + 1 = eqb-true _ _ own in
          split (ends_wait r.entry.call)
          (λ ends. let same = made-same past r (index + 1) ends in
          absurd (omega (arith, same, below, after)))
          (λ quiet.
          let more = made-own past r (index + 1) mine quiet in
          let number : k ≡ made past (index + 1) = omega (arith, more, below, after) in
          let none = free past r (index + 1) mine linear.1 quiet in
          let done : completed past (index + 1) ≡ k = completed-free past (index + 1) none ∙
          sym number in
          let from : ComesFrom histories past r = linear.2 in
          let at : from.index ≡ index = let p = from.process in omega (arith, p, mine) in
          let here : current_of histories past index ≡ Some operation =
          ap (λ (n : ℕ). operation_at histories index n) done ∙ is in
          let there : current_of histories past index ≡ Some from.operation =
          subst (λ (n : ℕ). current_of histories past n ≡ Some from.operation) at from.is in
          let both : Some from.operation ≡ Some operation = sym there ∙ here in
          let same : from.operation ≡ operation = cc in
          record {
            place = length past;
            placed = record {
              before = past;
              r = r;
              linear = linear;
              begun = begun;
              ends = inl refl;
              at = refl;
              of = at;
              number = done;
              own = quiet;
            };
            call = subst (λ (o : Operation). IsCallOf r o) same
                (own-call histories past r from quiet);
            fits = subst (λ (o : Operation). fits past r.entry.reply o.outcome ≡
                true) same from.fits;
            in_time = subst (λ (o : Operation). none_ended histories past o.begin
                (length histories) ≡
                true) same from.in_time;
          }))
          (λ other. let same = made-other past r (index + 1)
          (λ e. let k : (r.entry.process == index + 1) ≡ true = eq-eqb _ _ e in let bad : true ≡
          false = sym k ∙ other in cc) in absurd (omega (arith, same, below, after)))
    ]

-- a record with those before it
pub record IsAt (time : ℕ) (histories : Histories) (past : Past) (b : ℕ) (r : Record) : Type 0 where
  pub before : Past
  pub linear : IsLinearization histories (r ∷ before)
  pub begun : AreBegun time histories (r ∷ before) linear
  pub ends : Ends (r ∷ before) past
  pub place : length before ≡ b

pub record-with : (time : ℕ) (histories : Histories) (past : Past)
    (linear : IsLinearization histories past) → AreBegun time histories past linear →
    (b : ℕ) (r : Record) → record_at past b ≡ Some r → IsAt time histories past b r
record-with time histories [] linear begun b r at = absurd (let bad : None ≡ Some r = at in cc)
record-with time histories (s ∷ past) linear begun b r at = split (b == length past)
    (λ t.
    let both : Some s ≡ Some r = rw t at at in
    let same : s ≡ r = cc in
    subst (λ (x : Record). IsAt time histories (s ∷ past) b x) same
    (record {
      before = past;
      linear = linear;
      begun = begun;
      ends = inl refl;
      place = sym (eqb-true _ _ t);
    }))
    (λ f.
    let old : record_at past b ≡ Some r = rw f at at in
    let x = record-with time histories past linear.0 begun.0 b r old in
    record {
      before = x.before;
      linear = x.linear;
      begun = x.begun;
      ends = inr x.ends;
      place = x.place;
    })
