-- Whose an open wait is, its deadline, and that a withdrawal ends the open wait of its process.
use Rattle.std.proofs.lemmas.Bool.Decides.{nat_tests}
use Rattle.std.proofs.Common.{◌≡◌, ℕ, ◌<◌, ◌==◌, true, false, [], ◌∷◌, length, Option, Some, None, if◌then◌else◌, refl, sym, ◌∙◌, ap, eqb-true, eq-eqb, ne_eqb, arith}
use Rattle.std.specs.Option.{option_map}
use Rattle.std.proofs.lemmas.Bool.{and_parts, eqb-false}
use Rattle.mq_model.specs.Record.{Record, Past, record_at}
use Rattle.mq_model.specs.Deadlines.{deadline_of, is_over}
use Rattle.mq_model.specs.Waits.{is_wait, open_wait, wait_deadline, answered_by}
use Rattle.mq_model.specs.Legality.{IsLegalNext, may_call}
use Rattle.mq_model.specs.declared.entries.Deadline.{Deadline}
use Rattle.mq_model.specs.declared.entries.Call.{Call}
use Rattle.mq_model.specs.declared.entries.Reply.TheVariants.{Withdrawn}
use Rattle.mq_model.proofs.Places.{split}
use Rattle.mq_model.proofs.Prefixes.{record_at-below}
use Rattle.mq_model.proofs.Frames.{record_at-older}
use Rattle.mq_model.proofs.Cases.{Says}
use Rattle.mq_model.proofs.LegalReplies.{legal_says}

pub open_wait-process : (past : Past) (p w : ℕ) → open_wait past p ≡ Some w →
    option_map (λ r. r.entry.process) (record_at past w) ≡ Some p
open_wait-process [] p w e = absurd (cc)
open_wait-process (r ∷ past) p w e = split (r.entry.process == p)
    (λ own. grind (arith, nat_tests, eqb-true, eq-eqb))
    (λ other. let old : open_wait past p ≡ Some w = rw other at e in
    let before = open_wait-process past p w old in
    rw (record_at-older past r w (within past w p before)) before)
  where
    found : (past : Past) (w p : ℕ) (o : Option Record) → record_at past w ≡ o →
        option_map (λ r. r.entry.process) o ≡ Some p → w < length past
    found past w p None e h = absurd (cc)
    found past w p (Some r) e h = record_at-below past w r e

    within : (past : Past) (w p : ℕ) → option_map (λ r. r.entry.process) (record_at past w) ≡
        Some p → w < length past
    within past w p h = found past w p (record_at past w) refl h

pub same-waiter : (past : Past) (p k w : ℕ) → open_wait past p ≡ Some w →
    open_wait past k ≡ Some w → p ≡ k
same-waiter past p k w e f = let a : Some p ≡ Some k = sym (open_wait-process past p w e) ∙
    open_wait-process past k w f in cc

pub deadline-none : (past : Past) (p : ℕ) → open_wait past p ≡ None → wait_deadline past p ≡ None
deadline-none [] p e = refl
deadline-none (r ∷ past) p e = split (r.entry.process == p)
    (λ own. split (is_wait r.entry.reply)
    (λ t. let bad : Some (length past) ≡ None = rw (own, t) at e in absurd (cc))
    (λ f. rw (own, f) refl))
    (λ other. let old : open_wait past p ≡ None = rw other at e in
    rw other (deadline-none past p old))

-- a record of a process without an open wait, which begins none
pub wait_deadline-same : (past : Past) (r : Record) → open_wait past r.entry.process ≡ None →
    is_wait r.entry.reply ≡ false → (k : ℕ) → wait_deadline (r ∷ past) k ≡ wait_deadline past k
wait_deadline-same past r none goes k = grind (arith, eqb-true, deadline-none)

-- a wait whose deadline has passed is open
deadline-waits : (past : Past) (p : ℕ) (now : Deadline) →
    is_over (wait_deadline past p) now ≡ true → (w : ℕ) × (open_wait past p ≡ Some w)
deadline-waits [] p now h = absurd (cc)
deadline-waits (r ∷ past) p now h = split (r.entry.process == p)
    (λ own. let last : is_over (if is_wait r.entry.reply then deadline_of r.entry.call else None)
    now ≡ true = rw own at h in
    split (is_wait r.entry.reply)
    (λ t. (length past, rw (own, t) refl))
    (λ f. let bad : is_over None now ≡ true = rw f at last in absurd (cc)))
    (λ other. let old : is_over (wait_deadline past p) now ≡ true = rw other at h in
    let x = deadline-waits past p now old in (x.0, rw other x.1))

-- what is withdrawn is the open wait of the process, which no entry answers
pub withdrawn-open : (past : Past) (p : ℕ) (call : Call) (k : ℕ) → Says past p call (Withdrawn k) →
    may_call past p call ≡ true → (open_wait past p ≡ Some k) × (answered_by past p ≡ None)
withdrawn-open past p call k says turn = grind (arith, and_parts, deadline-waits)

-- a withdrawal of one process does not end the open wait of another
pub withdrawn-other : (past : Past) (r : Record) (p w k : ℕ) → IsLegalNext past r →
    (r.entry.process == p) ≡ false → open_wait past p ≡ Some w → r.entry.reply ≡ Withdrawn k →
    (k == w) ≡ false
withdrawn-other past r p w k legal other open_at is = ne_eqb k w (λ same.
    let says : Says past r.entry.process r.entry.call (Withdrawn k) =
    rw is at (legal_says past r legal) in
    let own = withdrawn-open past r.entry.process r.entry.call k says legal.turn in
    eqb-false _ _ other (same-waiter past r.entry.process p w (own.0 ∙ ap Some same) open_at))
