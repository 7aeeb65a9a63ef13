-- The messages in the queue of a name, and those that were got from it, all entered it.
use Rattle.std.proofs.Common.{◌≡◌, ◌≢◌, ℕ, ◌+◌, ◌≤◌, ◌==◌, Bool, true, false, List, [], ◌∷◌, length, Option, Some, None, is_some, refl, sym, ◌∙◌, ap, subst, arith, eqb-true}
use Rattle.std.specs.Str.{bytes_eq}
use Rattle.std.proofs.lemmas.Bool.{eqb-false}
use Rattle.mq_model.specs.Record.{Record, Past}
use Rattle.mq_model.specs.Descriptors.{called_queue, created, is_place}
use Rattle.mq_model.specs.Names.{name_of}
use Rattle.mq_model.specs.Messages.{admits, is_in, present}
use Rattle.mq_model.specs.Legality.{Legal}
use Rattle.mq_model.specs.declared.entries.Call.{Call}
use Rattle.mq_model.specs.declared.entries.Description.{Description}
use Rattle.mq_model.specs.declared.entries.Reply.{Reply}
use Rattle.mq_model.specs.declared.entries.Reply.TheVariants as reply
use Rattle.mq_model.proofs.Cases.{BestReply, Says}
use Rattle.mq_model.proofs.Alive.{name_of-older}
use Rattle.mq_model.proofs.Frames.{created-below}
use Rattle.mq_model.proofs.HeldQueues.{created-more}
use Rattle.mq_model.proofs.PresentFew.{called-created}
use Rattle.mq_model.proofs.LegalReplies.{legal_says}
use Rattle.mq_model.proofs.Places.{find-in, split}
use Rattle.mq_model.proofs.Presence.{GotFacts, present-got_elsewhere, present-got_here, present-handed, without-fewer}
use Rattle.mq_model.proofs.Steps.{present-queued, present-queued_elsewhere, without}
use Rattle.histories.specs.Histories.{Histories, current_of, is_through}
use Rattle.histories.specs.Linearizations.{IsLinearization}
use Rattle.histories.specs.Outcomes.{hands}
use Rattle.histories.specs.OwnCalls.{ends_wait}
use Rattle.histories.specs.Named.{KeepsName}
use Rattle.histories.proofs.Accepting.{send-on}
use Rattle.histories.proofs.Completing.{length-with, one_if}
use Rattle.histories.proofs.Cutting.{AreBegun, Ends, ends-older}
use Rattle.histories.proofs.Entering.{admits-on, entered_by, entered-step, own_come, queued-sends}
use Rattle.histories.proofs.Getting.{got_by, got-step, if_on, own_gain, record_on}
use Rattle.histories.proofs.Marking.{tally}
use Rattle.histories.proofs.Naming.{call-marked}
use Rattle.histories.proofs.Totals.{of_process, total, total-le}
use Rattle.histories.proofs.Tracing.{legal-linear}

-- the messages that a reply brings into its queue, and takes out of it
abbrev came : Reply → ℕ
came (reply.Queued n) = 1
came (reply.Got m a n) = one_if (is_some a)
came _ = 0

abbrev gone : Reply → ℕ
gone (reply.Got m a n) = 1
gone _ = 0

abbrev rec : ℕ → Call → Reply → List ℕ → Record
rec p call y payload = record {
  entry = record { process = p; call = call; reply = y };
  payload = payload;
}

-- of the queues that were created, this one has the name
abbrev pub HasName : List ℕ → Past → ℕ → Type 0
HasName name past q = (k : ℕ) → is_in (created past) k ≡ true →
    bytes_eq (name_of past k) name ≡ (k == q)

got-here : (past : Past) → Legal past →
    (p : ℕ) (call : Call) (h : Description) (m : ℕ) (a n : Option ℕ) (payload : List ℕ) →
    BestReply past h (reply.Got m a n) →
    length (present (rec p call (reply.Got m a n) payload ∷ past) h.queue) + 1 ≤ length
    (present past h.queue) + one_if (is_some a)
got-here past legal p call h m a n payload says = grind (
  arith,
  GotFacts,
  find-in,
  present-got_here,
  without-fewer,
  length-with,
  without,
)

-- what a receive does to a queue, if it is on it or not
got-at : (past : Past) → Legal past →
    (p : ℕ) (call : Call) (h : Description) (m : ℕ) (a n : Option ℕ) (payload : List ℕ) →
    BestReply past h (reply.Got m a n) → (q : ℕ) →
    length (present (rec p call (reply.Got m a n) payload ∷ past) q) + if_on (h.queue == q) 1 ≤
    length (present past q) + if_on (h.queue == q) (one_if (is_some a))
got-at past legal p call h m a n payload says q = split (h.queue == q)
    (λ t.
    let on : h.queue ≡ q = eqb-true _ _ t in
    let le = got-here past legal p call h m a n payload says in
    rw t (subst (λ (k : ℕ). length (present (rec p call (reply.Got m a n) payload ∷ past) k) + 1 ≤
    length (present past k) + one_if (is_some a)) on le))
    (λ f.
    let facts : GotFacts past h.queue m a =
    record { inside = (find-in _ (present past h.queue) m says.0).0; admitted = says.1 } in
    let apart : q ≢ h.queue = λ e. eqb-false _ _ f (sym e) in
    let same = ap length (present-got_elsewhere past p call m a n payload h.queue q facts apart) in
    rw f (omega (arith, same)))

if_on-zero : (on : Bool) → if_on on 0 ≡ 0
if_on-zero on = grind arith

present-step : (past : Past) → Legal past → (p : ℕ) (call : Call) (y : Reply) (payload : List ℕ) →
    Says past p call y → (q : ℕ) →
    length (present (rec p call y payload ∷ past) q) + if_on (is_place q (called_queue past p call))
    (gone y) ≤ length (present past q) + if_on (is_place q (called_queue past p call)) (came y)
present-step past legal p call y payload says q = grind (
  arith,
  present-queued,
  queued-sends,
  if_on-zero,
  if_on,
  present-queued_elsewhere,
  present-handed,
  rec,
  one_if,
  got-at,
)

balanced-on : (on : Bool) (y : Reply) →
    if_on on (came y) + if_on on (own_gain y + one_if (hands y)) ≤ if_on on (gone y) + if_on on
    (own_come y + one_if (is_some (admits y)))
balanced-on on y = grind arith

-- a call that brings in or takes out a message is on the queue if and only if its operation is
same-side : (time : ℕ) (name : List ℕ) (histories : Histories) (past : Past) (r : Record)
    (linear : IsLinearization histories (r ∷ past)) → AreBegun time histories (r ∷ past) linear →
    KeepsName time name histories → (q : ℕ) → HasName name past q →
    ((k : ℕ) → called_queue past r.entry.process r.entry.call ≡ Some k → ends_wait r.entry.call ≡
    false) → (k : ℕ) → called_queue past r.entry.process r.entry.call ≡ Some k →
    is_place q (called_queue past r.entry.process r.entry.call) ≡
    record_on name histories past r linear
same-side time name histories past r linear begun stays q named own k on =
    grind (arith, legal-linear, called-created, call-marked)

-- a call that names a descriptor ends no wait
names-own : (past : Past) (p : ℕ) (call : Call) (k : ℕ) → called_queue past p call ≡ Some k →
    ends_wait call ≡ false
names-own past p call k e = grind arith

-- what a record changes
abbrev IsStep : Past → Record → ℕ → Bool → Type 0
IsStep past r q on = length (present (r ∷ past) q) + if_on on (gone r.entry.reply) ≤ length
    (present past q) + if_on on (came r.entry.reply)

step-on : (time : ℕ) (name : List ℕ) (histories : Histories) (past : Past) (r : Record)
    (linear : IsLinearization histories (r ∷ past)) → AreBegun time histories (r ∷ past) linear →
    KeepsName time name histories → (q : ℕ) → HasName name past q →
    IsStep past r q (record_on name histories past r linear)
step-on time name histories past r linear begun stays q named =
    by (called_queue past r.entry.process r.entry.call) refl
  where
    legal : Legal past
    legal = legal-linear histories past linear.0

    says : Says past r.entry.process r.entry.call r.entry.reply
    says = legal_says past r linear.1

    step : length (present (r ∷ past) q) + if_on
        (is_place q (called_queue past r.entry.process r.entry.call)) (gone r.entry.reply) ≤ length
        (present past q) + if_on (is_place q (called_queue past r.entry.process r.entry.call))
        (came r.entry.reply)
    step = present-step past legal r.entry.process r.entry.call r.entry.reply r.payload says q

    -- a call through no descriptor moves no message
    still : (y : Reply) → Says past r.entry.process r.entry.call y →
        called_queue past r.entry.process r.entry.call ≡ None → (gone y ≡ 0) × (came y ≡ 0)
    still (reply.Queued n) x none = absurd (let on = send-on past r.entry.process r.entry.call
        (reply.Queued n) x (queued-sends past r.entry.process n r.entry.call x) refl in
        let bad : None ≡ Some on.0 = sym none ∙ on.1 in cc)
    still (reply.Got m a n) x none =
        absurd (let on = admits-on past r.entry.process m a n r.entry.call x in let bad : None ≡
        Some on.0 = sym none ∙ on.1 in cc)
    still _ x none = (refl, refl)

    by : (o : Option ℕ) → called_queue past r.entry.process r.entry.call ≡ o →
        IsStep past r q (record_on name histories past r linear)
    by (Some k) e = subst (IsStep past r q) (same-side time name histories past r linear begun stays
        q named (names-own past r.entry.process r.entry.call) k e) step
    by None e =
        let zero_of = still r.entry.reply says e in
        let off : is_place q (called_queue past r.entry.process r.entry.call) ≡ false =
        ap (is_place q) e in
        let before : IsStep past r q false = subst (IsStep past r q) off step in
        let gone_none : if_on (record_on name histories past r linear) (gone r.entry.reply) ≡ 0 =
        ap (if_on (record_on name histories past r linear)) zero_of.0 ∙
        if_on-zero (record_on name histories past r linear) in
        omega (arith, before, gone_none)

-- at each record of a complete linearization
pub balance : (time : ℕ) (name : List ℕ) (histories : Histories) (full past : Past)
    (linear : IsLinearization histories past) → AreBegun time histories past linear →
    KeepsName time name histories → IsLinearization histories full → Ends past full →
    ((i : ℕ) → is_through (current_of histories full i) ≡ true) → (q : ℕ) → HasName name past q →
    length (present past q) + total (got_by name histories past) (length histories) ≤ total
    (entered_by time name histories past) (length histories)
balance time name histories full [] linear begun stays whole ends through q named =
    grind (arith, total-le, got_by, of_process, tally, total)
balance time name histories full (r ∷ past) linear begun stays whole ends through q named =
    let older : HasName name past q = λ k old.
    ap (λ (b : List ℕ). bytes_eq b name) (sym (name_of-older past r k (created-below past k old))) ∙
    named k (created-more past r k old) in
    let before = balance time name histories full past linear.0 begun.0 stays whole
    (ends-older r past full ends) through q older in
    let here = step-on time name histories past r linear begun stays q older in
    let got = got-step time name histories past r linear begun stays in
    let entered = entered-step time name histories full past r linear begun stays
    whole ends through in
    let both = balanced-on (record_on name histories past r linear) r.entry.reply in
    omega (arith, before, here, got, entered, both)
