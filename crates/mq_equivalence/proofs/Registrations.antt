-- What an entry makes of the registration on a queue, without places.
use Rattle.std.proofs.lemmas.Bool.Decides.{nat_tests}
use Rattle.std.proofs.Common.{◌≡◌, ℕ, ◌<◌, ◌==◌, Bool, false, ◌&&◌, ◌||◌, List, [], ◌∷◌, length, Option, Some, None, is_some, if◌then◌else◌, refl, sym, ◌∙◌, ap, arith, eqb-true, eq-eqb, ne_eqb}
use Rattle.std.specs.Option.{option_map}
use Rattle.std.proofs.lemmas.Bool.{eqb-false}
use Rattle.mq_model.specs.Record.{Past}
use Rattle.mq_model.specs.Threads.{shares}
use Rattle.mq_model.specs.Descriptors.{called_queue, is_on, is_place}
use Rattle.mq_model.specs.Notices.{closes, ends, notified, only_if, or_else, registered, registration_of, removes, unless}
use Rattle.mq_model.specs.Legality.{IsLegalNext}
use Rattle.mq_model.specs.declared.entries.Registration.{Registration}
use Rattle.mq_model.specs.declared.entries.Call.{Call}
use Rattle.mq_model.specs.declared.entries.Call.TheVariants.{MqNotify}
use Rattle.mq_model.specs.declared.entries.Reply.{Reply}
use Rattle.mq_model.specs.declared.entries.Reply.TheVariants.{Done}
use Rattle.mq_model.proofs.Places.{split}
use Rattle.mq_model.proofs.Alive.{rec}
use Rattle.mq_model.proofs.NoticeSteps.{made-of, only-some, registered-made, unless-some}
use Rattle.mq_model.proofs.Presence.{place-is, sent_to}
use Rattle.mq_equivalence.specs.Views.{Registered, registered_as}
use Rattle.mq_equivalence.proofs.Notified.{notifies, viewed}
use Rattle.mq_model.proofs.LegalReplies.{legal_says}

-- the registration's place is that of a call on its queue -----------------------------------------

registered-to : (past : Past) (q : ℕ) (n : Registration) → registered past q ≡ Some n →
    sent_to past n.place ≡ Some q
registered-to [] q n e = absurd (cc)
registered-to (r ∷ past) q n e =
    by (only_if (is_on past r.entry q) (registration_of (length past) r.entry.process r.entry.call
    r.entry.reply)) refl e (λ old. registered-to past q n old)
  where
    by : (o : Option Registration) →
        only_if (is_on past r.entry q) (registration_of (length past) r.entry.process r.entry.call
        r.entry.reply) ≡ o → registered (r ∷ past) q ≡ Some n → (registered past q ≡ Some n →
        sent_to past n.place ≡ Some q) → sent_to (r ∷ past) n.place ≡ Some q
    by None is e rest =
        let old : unless (ends (is_on past r.entry q) r.entry) (registered past q) ≡ Some n =
        rw is at e in
        let stood = unless-some (ends (is_on past r.entry q) r.entry) (registered past q) n old in
        let low : n.place < length past = (registered-made past q n stood).place in
        rw (ne_eqb n.place (length past) (λ e. omega arith)) (rest stood)
    by (Some m) is e rest =
        grind (arith, nat_tests, made-of, only-some, eq-eqb, place-is)

one-place : (past : Past) (q k : ℕ) (n m : Registration) → registered past q ≡ Some n →
    registered past k ≡ Some m → n.place ≡ m.place → q ≡ k
one-place past q k n m eq ek same =
    let both : Some q ≡ Some k = sym (registered-to past q n eq) ∙ ap (sent_to past) same ∙
    registered-to past k m ek in cc

-- which registration a reply notifies -------------------------------------------------------------

and-none : (b : Bool) → false ≡ (b && false)
and-none b = grind arith

place-told : (past : Past) (p : ℕ) (call : Call) (reply : Reply) (payload : List ℕ) →
    IsLegalNext past (rec p call reply payload) → (q : ℕ) (n : Registration) →
    registered past q ≡ Some n →
    is_place n.place (notified reply) ≡ (is_place q (called_queue past p call) && is_some
    (notified reply))
place-told past p call reply payload next q n stands = by (notified reply) refl
  where
    by : (o : Option ℕ) → notified reply ≡ o →
        is_place n.place (notified reply) ≡ (is_place q (called_queue past p call) && is_some
        (notified reply))
    by None is = rw is (and-none (is_place q (called_queue past p call)))
    by (Some j) is =
        let m = notifies past p call reply j (legal_says past (rec p call reply payload) next) is in
        rw (is, m.called) (split (m.queue == q)
        (λ t. grind (arith, nat_tests, eqb-true, eq-eqb))
        (λ f. rw f
        (ne_eqb j n.place (λ e. eqb-false _ _ f (one-place past m.queue q m.registration n
        m.stands stands (m.place ∙ e))))))
      where
        registered-at : Option Registration → ℕ
        registered-at None = 0
        registered-at (Some n) = n.place

-- the step ----------------------------------------------------------------------------------------

abbrev made_by : ℕ → Call → Option Registered
made_by p (MqNotify d (Some v)) = Some (record { process = p; d = d; value = v })
made_by p _ = None

abbrev made : ℕ → Call → Reply → Option Registered
made p call Done = made_by p call
made p call _ = None

abbrev only : Bool → Option Registered → Option Registered
only b None = None
only b (Some n) = if b then Some n else None

abbrev over : Option Registered → Option Registered → Option Registered
over None before = before
over (Some n) before = Some n

abbrev ended : Bool → ℕ → Call → Reply → Registered → Bool
ended on p call reply n = (on && is_some (notified reply)) ||
    ((removes call reply && on || closes call reply n.d) && shares p n.process)

abbrev left : Bool → ℕ → Call → Reply → Option Registered → Option Registered
left on p call reply None = None
left on p call reply (Some n) = if ended on p call reply n then None else Some n

-- the registration after an entry, which is made on its queue or not
abbrev pub after_registered : Bool → ℕ → Call → Reply → Option Registered → Option Registered
after_registered on p call reply before = over (only on (made p call reply))
    (left on p call reply before)

view-over : (u v : Option Registration) →
    option_map viewed (or_else u v) ≡ over (option_map viewed u) (option_map viewed v)
view-over u v = grind arith

pub registered-step : (past : Past) (p : ℕ) (call : Call) (reply : Reply) (payload : List ℕ) →
    IsLegalNext past (rec p call reply payload) → (q : ℕ) →
    registered_as (rec p call reply payload ∷ past) q ≡
    after_registered (is_place q (called_queue past p call)) p call reply (registered_as past q)
registered-step past p call reply payload next q = grind (arith, view-over, rec, viewed, place-told)
