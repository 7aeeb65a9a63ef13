-- Replies to a call after equivalent journals return what was seen, or neither does.
use Rattle.std.proofs.Common.{◌≡◌, ℕ, ◌==◌, Bool, true, false, not, ◌&&◌, List, [], ◌∷◌, length, Option, Some, None, is_some, if◌then◌else◌, refl, ap, sym, ◌∙◌, subst, eq-eqb, arith}
use Rattle.std.specs.Option.{option_map, unwrap_or}
use Rattle.std.specs.Str.{bytes_eq}
use Rattle.mq_model.specs.Record.{Record, Past, Place, Process, record_at}
use Rattle.mq_model.specs.Descriptors.{is_place}
use Rattle.mq_model.specs.Messages.{is_send}
use Rattle.mq_model.specs.Waits.{answered_by, named_wait, names_wait, open_wait}
use Rattle.mq_model.specs.Legality.{Legal, may_call, reply_to}
use Rattle.mq_model.specs.declared.entries.Call.{Call}
use Rattle.mq_model.specs.declared.entries.Call.TheVariants.{Collect}
use Rattle.mq_model.specs.declared.entries.Reply.{Reply}
use Rattle.mq_model.specs.declared.entries.Reply.TheVariants as replies
use Rattle.mq_model.specs.declared.entries.Status.{Status}
use Rattle.mq_model.specs.declared.faults.Fault.{Fault}
use Rattle.mq_model.proofs.Cases.{Says, reply_says}
use Rattle.mq_model.proofs.Frames.{record_at-older}
use Rattle.mq_model.proofs.Places.{split}
use Rattle.mq_equivalence.specs.Views.{Message, answer, at, told}
use Rattle.mq_equivalence.specs.Steps.{message_given, shape}
use Rattle.mq_equivalence.proofs.Calls.{is_other, message-older, never-collected}
use Rattle.mq_equivalence.proofs.Effects.{answered-below, is_collected}
use Rattle.mq_equivalence.specs.Equivalence.{EquivalentUnder, StepsEquivalent}
use Rattle.mq_equivalence.proofs.Going.{shape-outline}
use Rattle.histories.specs.declared.operation.Outcome.{Outcome}
use Rattle.histories.specs.declared.operation.Outcome.TheVariants as outcomes
use Rattle.histories.specs.Outcomes.{completes, fits, hands, is_notice, opens, refuses, shows}

-- a reply that is no collect's --------------------------------------------------------------------

abbrev is_message_of : Option Message → ℕ → List ℕ → Bool
is_message_of None prio message = false
is_message_of (Some m) prio message = (m.prio == prio) && bytes_eq m.bytes message

-- whether a reply of this shape with this message returns what was seen
abbrev brings_of : Reply → Option Message → ℕ → List ℕ → Bool
brings_of replies.Waits m prio message = true
brings_of (replies.Got k a n) m prio message = is_message_of m prio message
brings_of _ m prio message = false

abbrev fits_of : Reply → Option Message → Outcome → Bool
fits_of r m outcomes.Pending = true
fits_of r m outcomes.Done = completes [] r
fits_of r m (outcomes.Opened d) = opens r d
fits_of r m (outcomes.Got prio message) = brings_of r m prio message.items
fits_of r m (outcomes.Attributes status) = shows r status
fits_of r m (outcomes.Notice value) = is_notice r value
fits_of r m (outcomes.Refused fault) = refuses r fault

opens-shape : (r : Reply) (d : ℕ) → opens r d ≡ opens (shape r) d
opens-shape r d = grind arith

shows-shape : (r : Reply) (status : Status) → shows r status ≡ shows (shape r) status
shows-shape r status = grind arith

notice-shape : (r : Reply) (value : Option ℕ) → is_notice r value ≡ is_notice (shape r) value
notice-shape r value = grind arith

refuses-shape : (r : Reply) (fault : Fault) → refuses r fault ≡ refuses (shape r) fault
refuses-shape r fault = grind arith

fits-shape : (past : Past) (r : Reply) (outcome : Outcome) → is_collected r ≡ false →
    fits past r outcome ≡ fits_of (shape r) (message_given past r) outcome
fits-shape past r outcome not = grind (arith, opens-shape, shows-shape, notice-shape, refuses-shape)

pub shape-same : (to : ℕ → ℕ) (x y : Past) (p : Process) (call : Call) (given : List ℕ) →
    StepsEquivalent to x y p call given →
    shape (reply_to y p call given) ≡ shape (reply_to x p call given)
shape-same to x y p call given steps = sym (shape-outline (reply_to y p call given)) ∙
    ap shape steps.reply ∙ shape-outline (reply_to x p call given)

other-fits : (to : ℕ → ℕ) (x y : Past) (p : Process) (call : Call) (given : List ℕ)
    (outcome : Outcome) → is_other call ≡ true → StepsEquivalent to x y p call given →
    fits y (reply_to y p call given) outcome ≡ fits x (reply_to x p call given) outcome
other-fits to x y p call given outcome other steps = grind (
  arith,
  message-older,
  fits-shape,
  never-collected,
  shape-same,
)

-- a collect ---------------------------------------------------------------------------------------

-- a send that names a wait hands its message over, and a receive that names one hands nothing over
hands-send : (past : Past) (p : Process) (call : Call) (reply : Reply) → Says past p call reply →
    is_some (named_wait reply) ≡ true → hands reply ≡ is_send call
hands-send past p call reply says names = grind (arith, Says)

-- the record of the entry that answered a wait
record Answers (past : Past) (by : Place) : Type 0 where
  answering : Record
  is : record_at past by ≡ Some answering
  hands_send : hands answering.entry.reply ≡ is_send answering.entry.call

answer-of : (past : Past) (p by : ℕ) → Legal past → answered_by past p ≡ Some by → Answers past by
answer-of [] p by legal e = cc
answer-of (r ∷ past) p by legal e = split (r.entry.process == p)
    (λ own. let bad : None ≡ Some by = rw own at e in absurd (cc))
    (λ other. split (names_wait r.entry.reply (open_wait past p))
    (λ t.
    let here : Some (length past) ≡ Some by = rw (other, t) at e in
    let place : length past ≡ by = cc in
    let says : Says past r.entry.process r.entry.call r.entry.reply =
    subst (λ (y : Reply). Says past r.entry.process r.entry.call y) (sym legal.1.reply)
    (reply_says past r.entry.process r.entry.call r.payload)
    in
    let P : ℕ → Type 0 = λ k. Answers (r ∷ past) k in
    subst P place (record {
      answering = r;
      is = ap (λ (b : Bool). if b then Some r else record_at past (length past))
          (eq-eqb (length past) (length past) refl);
      hands_send = hands-send past r.entry.process r.entry.call r.entry.reply says
          (names-some r.entry.reply (open_wait past p) t);
    }))
    (λ f.
    let old : answered_by past p ≡ Some by = rw (other, f) at e in
    let answers = answer-of past p by legal.0 old in
    record {
      answering = answers.answering;
      is = record_at-older past r by (answered-below past p by old) ∙ answers.is;
      hands_send = answers.hands_send;
    }))
  where
    place-some : (o : Option ℕ) (w : ℕ) → is_place w o ≡ true → is_some o ≡ true
    place-some None w t = cc
    place-some (Some k) w t = refl

    names-some : (reply : Reply) (o : Option ℕ) → names_wait reply o ≡ true →
        is_some (named_wait reply) ≡ true
    names-some reply None t = cc
    names-some reply (Some w) t = place-some (named_wait reply) w t

-- whether a wait that was answered so returns what was seen: by a send of this message, or by a
-- receive
abbrev fits_answer : Option Message → Outcome → Bool
fits_answer m outcomes.Pending = true
fits_answer m outcomes.Done = not (is_some m)
fits_answer m (outcomes.Got prio message) = is_message_of m prio message.items
fits_answer m _ = false

answer-fits : (past : Past) (by : Place) (r : Record) (outcome : Outcome) →
    record_at past by ≡ Some r → hands r.entry.reply ≡ is_send r.entry.call →
    fits past (replies.Collected by) outcome ≡ fits_answer (told r) outcome
answer-fits past by r outcome is handed = grind arith

-- the answers to the wait of a process, by their places
collect-fits : (to : ℕ → ℕ) (x y : Past) (p : Process) (outcome : Outcome) →
    EquivalentUnder to x y → (o q : Option Place) → answered_by x p ≡ o → answered_by y p ≡ q →
    is_some o ≡ true → is_some q ≡ true →
    fits y (replies.Collected (unwrap_or q 0)) outcome ≡
    fits x (replies.Collected (unwrap_or o 0)) outcome
collect-fits to x y p outcome alike (Some a) (Some b) at_x at_y some_x some_y =
    let of_x = answer-of x p a alike.legal.0 at_x in
    let of_y = answer-of y p b alike.legal.1 at_y in
    let shown_x : answer x p ≡ Some (Some (told of_x.answering)) =
    ap (λ (o : Option Place). option_map (at told x) o) at_x ∙
    ap (λ (o : Option Record). Some (option_map told o)) of_x.is in
    let shown_y : answer y p ≡ Some (Some (told of_y.answering)) =
    ap (λ (o : Option Place). option_map (at told y) o) at_y ∙
    ap (λ (o : Option Record). Some (option_map told o)) of_y.is in
    let both : Some (Some (told of_y.answering)) ≡ Some (Some (told of_x.answering)) = sym shown_y ∙
    alike.answered p ∙ shown_x in
    let same : told of_y.answering ≡ told of_x.answering = cc in
    answer-fits y b of_y.answering outcome of_y.is of_y.hands_send ∙
    ap (λ (m : Option Message). fits_answer m outcome) same ∙
    sym (answer-fits x a of_x.answering outcome of_x.is of_x.hands_send)
collect-fits to x y p outcome alike _ _ at_x at_y some_x some_y = absurd (cc)

-- a call ------------------------------------------------------------------------------------------

pub fits-alike : (to : ℕ → ℕ) (x y : Past) (p : Process) (call : Call) (given : List ℕ)
    (outcome : Outcome) → EquivalentUnder to x y → may_call x p call ≡ true →
    may_call y p call ≡ true → StepsEquivalent to x y p call given →
    fits y (reply_to y p call given) outcome ≡ fits x (reply_to x p call given) outcome
fits-alike to x y p Collect given outcome alike can_x can_y steps =
    collect-fits to x y p outcome alike (answered_by x p) (answered_by y p) refl refl can_x can_y
fits-alike to x y p call given outcome alike can_x can_y steps =
    other-fits to x y p call given outcome refl steps
