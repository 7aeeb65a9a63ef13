-- A legal journal at each place.
use Rattle.std.proofs.lemmas.Bool.Decides.{nat_tests}
use Rattle.std.proofs.Common.{◌≡◌, ℕ, suc, ◌-◌, ◌<◌, ◌≤◌, ◌==◌, [], ◌∷◌, length, Option, Some, refl, sym, ◌∙◌, ap, arith, eqb-true, eq-eqb, leb-true, leb-false, drop}
use Rattle.mq_model.specs.Record.{Record, Past, record_at, first}
use Rattle.mq_model.specs.Legality.{Legal, IsLegalNext}
use Rattle.mq_laws.specs.Laws.{reply_at, Has, IsOnce}
use Rattle.mq_model.specs.declared.entries.Reply.{Reply}
use Rattle.mq_model.proofs.Places.{split}
use Rattle.mq_model.proofs.Prefixes.{record_at-below, first-all}

-- the first records of a longer journal
pub first-older : (past : Past) (r : Record) (k : ℕ) → k ≤ length past →
    first k (r ∷ past) ≡ first k past
first-older past r k le = let less : suc (length past) - k ≡ suc (length past - k) = omega arith in
    rw less refl

-- the first records of the first records
pub first-first : (past : Past) (j k : ℕ) → j ≤ k → first j (first k past) ≡ first j past
first-first [] j k le = let none : 0 - k ≡ 0 = omega arith in
    ap (λ (n : ℕ). first j (drop n [])) none
first-first (r ∷ past) j k le = grind (
  arith,
  leb-true,
  leb-false,
  first-older,
  first-first past j k le,
)

pub record LegalAt (past : Past) (k : ℕ) (r : Record) : Type 0 where
  pub before : Legal (first k past)
  pub next : IsLegalNext (first k past) r

-- the record at a place is legal after those before it
pub legal-at : (past : Past) → Legal past → (k : ℕ) (r : Record) → record_at past k ≡ Some r →
    LegalAt past k r
legal-at [] legal k r e = absurd (cc)
legal-at (s ∷ past) legal k r e = split (k == length past)
    (λ t. grind (arith, nat_tests, eqb-true, first-older, first-all))
    (λ f. let old : record_at past k ≡ Some r = rw f at e in
    let lt = record_at-below past k r old in
    let x = legal-at past legal.0 k r old in
    let same : first k (s ∷ past) ≡ first k past = first-older past s k (omega (arith, lt)) in
    record { before = rw same x.before; next = rw same x.next })

-- the record with a reply
pub record-of : (past : Past) (k : ℕ) (reply : Reply) → reply_at past k ≡ Some reply →
    (r : Record) × (record_at past k ≡ Some r) × (r.entry.reply ≡ reply)
record-of past k reply e = grind arith

pub record HasRecord (part : Reply → Option ℕ) (past : Past) (k m : ℕ) : Type 0 where
  pub r : Record
  pub at : record_at past k ≡ Some r
  pub is : part r.entry.reply ≡ Some m

pub has-record : (part : Reply → Option ℕ) (past : Past) (k m : ℕ) → Has part past k m →
    HasRecord part past k m
has-record part past k m e = grind arith

pub has-here : (part : Reply → Option ℕ) (past : Past) (r : Record) (m : ℕ) →
    part r.entry.reply ≡ Some m → Has part (r ∷ past) (length past) m
has-here part past r m e = rw (eq-eqb (length past) (length past) refl) e

-- a reply is that of the latest record, or of an earlier one
pub has-cases : {C : Type 0} (part : Reply → Option ℕ) (past : Past) (r : Record) (k m : ℕ) →
    Has part (r ∷ past) k m → (k ≡ length past → part r.entry.reply ≡ Some m → C) →
    (Has part past k m → k < length past → C) → C
has-cases part past r k m e newest older = grind (arith, eqb-true, has-record, record_at-below)

-- what no earlier reply has when a legal record has it
pub once : (part : Reply → Option ℕ) →
    ((past : Past) (r : Record) → Legal past → IsLegalNext past r → (j m : ℕ) → part r.entry.reply ≡
    Some m → Has part past j m → ⊥) → (past : Past) → Legal past → IsOnce part past
once part fresh [] legal j k m hj hk = absurd (cc)
once part fresh (r ∷ past) legal j k m hj hk =
    has-cases part past r j m hj
    (λ nj ej. has-cases part past r k m hk (λ nk ek. nj ∙ sym nk)
    (λ ok lt. absurd (fresh past r legal.0 legal.1 k m ej ok)))
    (λ oj lt. has-cases part past r k m hk
    (λ nk ek. absurd (fresh past r legal.0 legal.1 j m ek oj))
    (λ ok lk. once part fresh past legal.0 j k m oj ok))
