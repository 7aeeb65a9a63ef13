-- The registration that the definition gives is the latest one that was made and not ended.
use Rattle.std.proofs.lemmas.Bool.Decides.{nat_tests}
use Rattle.std.proofs.Common.{◌≡◌, ℕ, ◌<◌, ◌==◌, Bool, true, false, List, [], ◌∷◌, length, Option, Some, None, refl, sym, ◌∙◌, ap, subst, arith, eqb-true, eq-eqb}
use Rattle.std.proofs.lemmas.Bool.{and_parts, eqb-false, false_from_ne_true, or_right}
use Rattle.mq_model.specs.Record.{Record, Past, record_at, first}
use Rattle.mq_model.specs.Descriptors.{called_queue, is_on}
use Rattle.mq_model.specs.Notices.{registration_of, only_if, is_removal, removes, is_close_of, closes, ends, unless, registered}
use Rattle.mq_model.specs.Legality.{Legal, IsLegalNext, reply_to}
use Rattle.mq_model.specs.declared.entries.Registration.{Registration}
use Rattle.mq_model.specs.declared.entries.Call.{Call}
use Rattle.mq_model.specs.declared.entries.Call.TheVariants.{MqClose, MqNotify}
use Rattle.mq_model.specs.declared.entries.Reply.{Reply}
use Rattle.mq_model.specs.declared.entries.Reply.TheVariants.{Done}
use Rattle.mq_model.proofs.Places.{split}
use Rattle.mq_model.proofs.Prefixes.{record_at-below, first-all}
use Rattle.mq_model.proofs.Frames.{record_at-older}
use Rattle.mq_laws.specs.Registrations.{IsEndedBy, Stands, IsLatest, RegistersLatest}
use Rattle.mq_laws.proofs.LegalPlaces.{first-older}

-- what ends a registration ------------------------------------------------------------------------

removal-is : (call : Call) → is_removal call ≡ true → (d : ℕ) × (call ≡ MqNotify d None)
removal-is call e = grind arith

close-is : (call : Call) (d : ℕ) → is_close_of call d ≡ true → call ≡ MqClose d
close-is call d e = grind (arith, eqb-true)

-- a test that only a successful call can pass
abbrev only_done : (Call → Bool) → Call → Reply → Bool
only_done t call Done = t call
only_done t call _ = false

done-is : (t : Call → Bool) (call : Call) (reply : Reply) → only_done t call reply ≡ true →
    (reply ≡ Done) × (t call ≡ true)
done-is t call reply e = grind arith

removes-is : (call : Call) (reply : Reply) → removes call reply ≡ only_done is_removal call reply
removes-is call reply = refl

closes-is : (call : Call) (reply : Reply) (d : ℕ) →
    closes call reply d ≡ only_done (λ c. is_close_of c d) call reply
closes-is call reply d = grind arith

pub ended-by : (past : Past) (r : Record) (q : ℕ) (n : Registration) →
    ends (is_on past r.entry q) r.entry n ≡ true → IsEndedBy past q n r
ended-by past r q n e = grind (
  arith,
  and_parts,
  eqb-true,
  done-is,
  removes-is,
  removal-is,
  closes-is,
  close-is,
)

pub by-ended : (past : Past) (r : Record) (q : ℕ) (n : Registration) → IsEndedBy past q n r →
    ends (is_on past r.entry q) r.entry n ≡ true
by-ended past r q n h = grind (arith, eq-eqb, or_right)

-- what makes a registration -----------------------------------------------------------------------

record IsMadeBy (here p : ℕ) (c : Call) (a : Reply) (n : Registration) : Type 0 where
  place : n.place ≡ here
  process : p ≡ n.process
  call : c ≡ MqNotify n.d (Some n.value)
  reply : a ≡ Done

made-of : (here p : ℕ) (call : Call) (reply : Reply) (n : Registration) →
    registration_of here p call reply ≡ Some n → IsMadeBy here p call reply n
made-of here p call reply n e = grind arith

only-parts : (b : Bool) (o : Option Registration) (n : Registration) → only_if b o ≡ Some n →
    (b ≡ true) × (o ≡ Some n)
only-parts b o n e = grind arith

pub unless-parts : (ended : Registration → Bool) (o : Option Registration) (n : Registration) →
    unless ended o ≡ Some n → (o ≡ Some n) × (ended n ≡ false)
unless-parts ended o n e = grind arith

-- a longer journal --------------------------------------------------------------------------------

first-here : (past : Past) (r : Record) → first (length past) (r ∷ past) ≡ past
first-here past r = first-older past r (length past) (omega arith) ∙ first-all past
    (length past) refl

at-here : (past : Past) (r : Record) (k : ℕ) → k ≡ length past → record_at (r ∷ past) k ≡ Some r
at-here past r k e = rw (e, eq-eqb (length past) (length past) refl) refl

-- a registration that existed still exists unless the newest record ends it
stands-older : (past : Past) (r : Record) (q : ℕ) (n : Registration) → (IsEndedBy past q n r → ⊥) →
    Stands past q n → Stands (r ∷ past) q n
stands-older past r q n not x =
    let lt = record_at-below past n.place x.r x.at in
    record {
      r = x.r;
      at = record_at-older past r n.place lt ∙ x.at;
      process = x.process;
      call = x.call;
      reply = x.reply;
      on = ap (λ b. called_queue b x.r.entry.process x.r.entry.call) (first-older past r n.place
          (omega (arith, lt))) ∙ x.on;
      left = left;
    }
  where
    left : (j : ℕ) (s : Record) → n.place < j → record_at (r ∷ past) j ≡ Some s →
        IsEndedBy (first j (r ∷ past)) q n s → ⊥
    left j s later at ended = split (j == length past)
        (λ t. grind (arith, nat_tests, eqb-true, at-here, first-here))
        (λ f. let old : record_at past j ≡ Some s = rw f at at in
        let below = record_at-below past j s old in
        x.left j s later old (subst (λ b. IsEndedBy b q n s)
        (first-older past r j (omega (arith, below))) ended))

-- a registration that exists and was made before the newest record existed before it, and that
-- record does not end it
stood : (past : Past) (r : Record) (q : ℕ) (n : Registration) → n.place < length past →
    Stands (r ∷ past) q n → Stands past q n
stood past r q n lt x = record {
  r = x.r;
  at = sym (record_at-older past r n.place lt) ∙ x.at;
  process = x.process;
  call = x.call;
  reply = x.reply;
  on = ap (λ b. called_queue b x.r.entry.process x.r.entry.call)
      (sym (first-older past r n.place (omega (arith, lt)))) ∙ x.on;
  left = λ j s later at ended.
      let below = record_at-below past j s at in
      x.left j s later (record_at-older past r j below ∙ at) (subst (λ b. IsEndedBy b q n s)
      (sym (first-older past r j (omega (arith, below)))) ended);
}

not-ended : (past : Past) (r : Record) (q : ℕ) (n : Registration) → n.place < length past →
    Stands (r ∷ past) q n → IsEndedBy past q n r → ⊥
not-ended past r q n lt x ended = x.left (length past) r lt (at-here past r (length past) refl)
    (subst (λ b. IsEndedBy b q n r) (sym (first-here past r)) ended)

-- the two words are one ---------------------------------------------------------------------------

pub registered-stands : (past : Past) (q : ℕ) (n : Registration) → registered past q ≡ Some n →
    Stands past q n
registered-stands [] q n e = absurd (cc)
registered-stands (r ∷ past) q n e =
    by (only_if (is_on past r.entry q) (registration_of (length past) r.entry.process r.entry.call
    r.entry.reply)) refl e (λ old. registered-stands past q n old)
  where
    by : (o : Option Registration) →
        only_if (is_on past r.entry q) (registration_of (length past) r.entry.process r.entry.call
        r.entry.reply) ≡ o → registered (r ∷ past) q ≡ Some n → (registered past q ≡ Some n →
        Stands past q n) → Stands (r ∷ past) q n
    by None is e rest =
        let old : unless (ends (is_on past r.entry q) r.entry) (registered past q) ≡ Some n =
        rw is at e in
        let parts = unless-parts (ends (is_on past r.entry q) r.entry) (registered past q) n old in
        stands-older past r q n (λ ended. let bad : true ≡ false = sym (by-ended past r q n ended) ∙
        parts.1 in cc) (rest parts.0)
    by (Some m) is e rest =
        grind (arith, nat_tests, only-parts, made-of, at-here, first-here, record_at-below)

-- a registration is made only if there is none
busy : (past : Past) (p d v q : ℕ) (n : Registration) (payload : List ℕ) →
    registered past q ≡ Some n → called_queue past p (MqNotify d (Some v)) ≡ Some q →
    Done ≡ reply_to past p (MqNotify d (Some v)) payload → ⊥
busy past p d v q n payload stands on is = grind arith

none-made : (past : Past) (r : Record) (q : ℕ) (n : Registration) → IsLegalNext past r →
    registered past q ≡ Some n →
    only_if (is_on past r.entry q) (registration_of (length past) r.entry.process r.entry.call
    r.entry.reply) ≡ None
none-made past r q n next stands = grind (arith, only-parts, made-of, busy)

pub stands-registered : (past : Past) → Legal past → (q : ℕ) (n : Registration) → Stands past q n →
    registered past q ≡ Some n
stands-registered [] legal q n x = absurd (let bad = x.at in cc)
stands-registered (r ∷ past) legal q n x = split (n.place == length past)
    (λ t. grind (arith, nat_tests, eqb-true, at-here, first-here))
    (λ f. let ne : n.place ≡ length past → ⊥ = eqb-false _ _ f in
    let long = record_at-below (r ∷ past) n.place x.r x.at in
    let lt : n.place < length past = omega (arith, ne, long) in
    let old = stands-registered past legal.0 q n (stood past r q n lt x) in
    let kept : ends (is_on past r.entry q) r.entry n ≡ false = false_from_ne_true _
    (λ t. not-ended past r q n lt x (ended-by past r q n t)) in
    rw (none-made past r q n legal.1 old, old, kept) refl)

pub registers-latest : (past : Past) → Legal past → RegistersLatest past
registers-latest past legal q = by (registered past q) refl
  where
    by : (o : Option Registration) → registered past q ≡ o → IsLatest past q o
    by None is = λ n x. let some = stands-registered past legal q n x in let bad : None ≡ Some n =
        sym is ∙ some in absurd (cc)
    by (Some n) is = (
      registered-stands past q n is,
      λ m x. let some : Some n ≡ Some m = sym is ∙
          stands-registered past legal q m x in let same : n ≡ m = cc in rw same (omega arith),
    )
