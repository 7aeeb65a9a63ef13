-- What a process did for a line of a script is a sequence of moves.
use Rattle.std.proofs.Common.{arith, ◌≡◌, ◌≤◌, ◌≢◌, ℕ, true, false, List, [], length, replicate, Option, Some, None, Result, Ok, Err, inl, inr, refl, ap, sym, ◌∙◌, subst, Vec, ◌⊎◌, Global}
use Rattle.std.proofs.lemmas.List.{length-replicate}
use Rattle.fast_mutex.specs.Items.{Ticket}
use Rattle.mq.specs.Calls.{Calls, Exits, Expired, Found, OneCall, ReceiveCall, SendCall, TimedReceive, TimedSend, WaitedReceive, WaitedSend, WholeReceive, bounds_in, bounds_of, made}
use Rattle.mq.specs.Says.{receive_says, send_says}
use Rattle.mq_model.proofs.Places.{clash, split}
use Rattle.mq_model.specs.Messages.{is_receive}
use Rattle.mq_model.specs.Name.{has_name_form, is_name, is_short}
use Rattle.mq_model.specs.Record.{Past, Record}
use Rattle.mq_model.specs.declared.entries.Call.{Call}
use Rattle.mq_model.specs.declared.entries.Call.TheVariants.{MqClose, MqSend, MqReceive, MqTimedSend, MqTimedReceive}
use Rattle.mq_model.specs.declared.entries.Deadline.{Deadline}
use Rattle.mq_model.specs.declared.entries.Received.{Received}
use Rattle.mq_model.specs.declared.entries.Reply.{Reply}
use Rattle.mq_model.specs.declared.entries.Reply.TheVariants.{Refused}
use Rattle.mq_model.specs.declared.faults.Fault.{Fault}
use Rattle.mq_model.specs.declared.faults.Fault.TheVariants.{Invalid, NameTooLong, NoMemory}
use Rattle.mq_state.specs.Buffers.{filled}
use Rattle.script_orders.specs.Plans.{named_step}
use Rattle.script_orders.specs.Progress.{Progress}
use Rattle.script_orders.specs.declared.plan.Planned.{Planned}
use Rattle.script_orders.specs.declared.plan.Step.{Step}
use Rattle.script_orders.specs.declared.plan.Step.TheVariants as steps
use Rattle.script_runner.specs.Runs.{MakesNamed, Shows, outcome_by}
use Rattle.script_text.specs.Replies.{reply_line}
use Rattle.script_text.specs.declared.reply.Outcome.{Outcome}
use Rattle.script_text.specs.declared.reply.Outcome.TheVariants as outcomes
use Rattle.script_laws.proofs.Closing.{AreFirst}
use Rattle.script_laws.proofs.Entering.{entered, no-entry, not-full}
use Rattle.script_laws.proofs.Expiring.{never-expires, receive-timed, send-timed}
use Rattle.script_laws.proofs.Lines.{IsNext}
use Rattle.script_laws.proofs.Moving.{IsAt, Moved, Stay, exit-moves, refusal-moves, stay-moves}
use Rattle.script_laws.proofs.Saying.{Tells, receive-tells, send-tells}
use Rattle.script_laws.proofs.Waiting.{received-prints, said-by, waited-moves}

-- the next step, rewritten along an equality
pub next-step : (phase : ℕ) (program : Vec Planned Global) (begun : ℕ) (step other : Step)
    (given : List ℕ) → step ≡ other → IsNext phase program begun step given →
    IsNext phase program begun other given
next-step phase program begun step other given same next =
    subst (λ (s : Step). IsNext phase program begun s given) same next

-- a call in one stay ------------------------------------------------------------------------------

pub stay-of : {A : Type 0} (says : Past → Reply → Option (Result A Fault)) (shows : A → Outcome)
    (buffer : Past → Reply → List ℕ) (old new : Ticket Record) (call : Call) (given : List ℕ)
    (reply : Reply) (result : Result A Fault)
    → Tells says shows buffer → bounds_in old.lock.fixed ≡ None →
    outcome_by shows result ≢ outcomes.Refused NoMemory
    → Calls old new (made old.number call given reply) → Found old new call given reply →
    says new.left reply ≡ Some result
    → Stay old new call given (reply_line old.number (outcome_by shows result)
    (buffer new.left reply))
stay-of {A} says shows buffer old new call given reply result tells bounds memory calls found
    says_so = record {
      reply = reply;
      calls = calls;
      found = found;
      entered = entered (bounds_of old) found.journal old.number call given reply bounds found.heeds
          (λ is. memory (grind (arith, tells.refuses)));
      ends = grind (arith, tells.waits);
      prints = tells.prints new.left old.number reply result says_so;
    }

module _ (phase : ℕ) (program : Vec Planned Global) (from : Past) (progress : Progress)
    (old new : Ticket Record) (at : IsAt old.number from old) where
  pub one-moves : {A : Type 0} (says : Reply → Option (Result A Fault)) (shows : A → Outcome)
      (call : Call) (given after : List ℕ) (came : Outcome)
      → Tells (λ _ reply. says reply) shows (λ _ _. after) → came ≢ outcomes.Refused NoMemory
      → IsNext phase program progress.begun (steps.Call call) given →
      Shows shows (OneCall says old new call given) came →
      Moved old.number phase program from progress new (reply_line old.number came after)
  one-moves says shows call given after came tells memory next x =
      let one = x.called in
      let stay = stay-of (λ _ reply. says reply) shows (λ _ _. after) old new call given one.reply
      x.result tells at.bounds (λ is. memory (x.outcome ∙ is)) one.calls
      one.found one.says_so in
      rw x.outcome (stay-moves phase program from progress old new call given _ at next stay)

  refused-moves : (fault : Fault) (given after : List ℕ) (came : Outcome) →
      IsNext phase program progress.begun (steps.Refusal fault) given →
      (new ≡ old) × (came ≡ outcomes.Refused fault)
      → Moved old.number phase program from progress new (reply_line old.number came after)
  refused-moves fault given after came next x =
      rw (x.0, x.1) (refusal-moves phase program from progress old fault given at next)

  pub named-moves : {A : Type 0} (says : Reply → Option (Result A Fault)) (shows : A → Outcome)
      (call : Call) (name after : List ℕ) (came : Outcome)
      → Tells (λ _ reply. says reply) shows (λ _ _. after) → came ≢ outcomes.Refused NoMemory
      → IsNext phase program progress.begun (named_step name call) name →
      MakesNamed says shows call name old new came →
      Moved old.number phase program from progress new (reply_line old.number came after)
  named-moves says shows call name after came tells memory next makes = split (is_name name)
      (λ yes. one-moves says shows call name after came tells memory
      (next-step phase program progress.begun (named_step name call) (steps.Call call) name
      (rw yes refl) next) (makes.made yes))
      (λ no. split (has_name_form name)
      (λ form.
      let long : is_short name ≡ false = split (is_short name) (λ t. let bad : is_name name ≡
      true = rw (form, t) refl in clash (is_name name) bad no) (λ f. f) in
      refused-moves NameTooLong name after came (next-step phase program progress.begun
      (named_step name call) (steps.Refusal NameTooLong) name (rw (no, form) refl) next)
      (makes.too_long form long))
      (λ other.
      refused-moves Invalid name after came (next-step phase program progress.begun
      (named_step name call) (steps.Refusal Invalid) name (rw (no, other) refl) next)
      (makes.invalid other)))

  exit-of : (result : Result (Unit {0}) Fault) (given after : List ℕ) →
      outcome_by (λ _. outcomes.Done) result ≢ outcomes.Refused NoMemory
      → IsNext phase program progress.begun steps.Exit given →
      (old.number ≤ 32) × AreFirst new.left → Exits old new result →
      Moved old.number phase program from progress new
      (reply_line old.number (outcome_by (λ _. outcomes.Done) result) after)
  exit-of (Ok u) given after memory next few x = exit-moves phase program from x.found progress old
      new given x.closing.ds at next x.calls x.closing.is x.closing.in_turn x.ok few
  exit-of (Err fault) given after memory next few x =
      let stops = x.err in
      absurd (no-entry fault stops.unentered
      (λ is. memory (ap (λ (f : Fault). outcomes.Refused f) is))
      (λ is. not-full (bounds_of old) new.left old.number (MqClose stops.d) [] (Refused fault)
      at.bounds stops.heeds (ap (λ (f : Fault). Refused f) is)))

  pub exit-performs : (given after : List ℕ) (came : Outcome) → came ≢ outcomes.Refused NoMemory
      → IsNext phase program progress.begun steps.Exit given →
      (old.number ≤ 32) × AreFirst new.left → Shows (λ _. outcomes.Done) (Exits old new) came →
      Moved old.number phase program from progress new (reply_line old.number came after)
  exit-performs given after came memory next few x =
      rw x.outcome (exit-of x.result given after (λ is. memory (x.outcome ∙ is)) next few x.called)

  -- sends and receives ----------------------------------------------------------------------------

  sent-moves : (call : Call) (given after : List ℕ) (result : Result (Unit {0}) Fault) →
      is_receive call ≡ false → outcome_by (λ _. outcomes.Done) result ≢ outcomes.Refused NoMemory
      → IsNext phase program progress.begun (steps.Call call) given →
      OneCall send_says old new call given result ⊎ WaitedSend old new call given result
      → Moved old.number phase program from progress new
      (reply_line old.number (outcome_by (λ _. outcomes.Done) result) after)
  sent-moves call given after result kind memory next (inl one) =
      let stay = stay-of (λ _ reply. send_says reply) (λ _. outcomes.Done) (λ _ _. after) old new
      call given one.reply result (send-tells after) at.bounds memory one.calls
      one.found one.says_so in
      stay-moves phase program from progress old new call given _ at next stay
  sent-moves call given after result kind memory next (inr x) =
      rw x.is (waited-moves phase program from progress old new call given
      (reply_line old.number outcomes.Done []) x.by at next x.waited
      (λ past g answers. said-by false past old.number x.by call kind answers))

  received-moves : (call : Call) (before after : List ℕ) (result : Result Received Fault) →
      is_receive call ≡ true → outcome_by outcomes.Got result ≢ outcomes.Refused NoMemory
      → IsNext phase program progress.begun (steps.Call call) [] →
      ReceiveCall receive_says old new call before after result ⊎ WaitedReceive old new call
      before after result
      → Moved old.number phase program from progress new
      (reply_line old.number (outcome_by outcomes.Got result) after)
  received-moves call before after result kind memory next (inl x) =
      let stay = stay-of receive_says outcomes.Got (λ past reply. filled past reply before) old new
      call [] x.reply result (receive-tells before) at.bounds memory x.calls
      x.found x.says_so in
      rw x.buffer (stay-moves phase program from progress old new call [] _ at next stay)
  received-moves call before after result kind memory next (inr x) =
      rw (x.buffer, x.is) (waited-moves phase program from progress old new call [] _ x.by at next
      x.waited (λ past g answers. received-prints past new.left old.number x.by call before
      g kind answers))

  pub send-performs : (d prio : ℕ) (message after : List ℕ) (came : Outcome) →
      came ≢ outcomes.Refused NoMemory
      → IsNext phase program progress.begun (steps.Call (MqSend d prio (length message))) message →
      Shows (λ _. outcomes.Done) (SendCall old new d message prio) came
      → Moved old.number phase program from progress new (reply_line old.number came after)
  send-performs d prio message after came memory next x =
      rw x.outcome (sent-moves (MqSend d prio (length message)) message after x.result refl
      (λ is. memory (x.outcome ∙ is)) next x.called)

  pub receive-performs : (d room : ℕ) (after : List ℕ) (came : Outcome) →
      came ≢ outcomes.Refused NoMemory
      → IsNext phase program progress.begun (steps.Call (MqReceive d room)) [] →
      Shows outcomes.Got (WholeReceive old new d (replicate room 0) after) came
      → Moved old.number phase program from progress new (reply_line old.number came after)
  receive-performs d room after came memory next x =
      let step = rw (sym (length-replicate {A = ℕ} room 0)) at next in
      rw x.outcome (received-moves (MqReceive d (length (replicate room 0))) (replicate room 0)
      after x.result refl (λ is. memory (x.outcome ∙ is)) step x.called)

  -- with a deadline -------------------------------------------------------------------------------

  timed_send-by : (d prio : ℕ) (message after : List ℕ) (until now moment : Deadline)
      (result : Result (Unit {0}) Fault) → now ≡ moment →
      outcome_by (λ _. outcomes.Done) result ≢ outcomes.Refused NoMemory
      → IsNext phase program progress.begun
      (steps.Call (MqTimedSend d prio (length message) until now)) message
      → OneCall send_says old new (MqTimedSend d prio (length message) until now) message result ⊎
      WaitedSend old new (MqTimedSend d prio (length message) until now) message result
      ⊎ Expired (λ now. now ≡ moment) old new (MqTimedSend d prio (length message) until now)
      message result
      → Moved old.number phase program from progress new
      (reply_line old.number (outcome_by (λ _. outcomes.Done) result) after)
  timed_send-by d prio message after until now moment result same memory next (inl x) =
      sent-moves (MqTimedSend d prio (length message) until now) message after result refl
      memory next (inl x)
  timed_send-by d prio message after until now moment result same memory next (inr (inl x)) =
      sent-moves (MqTimedSend d prio (length message) until now) message after result refl
      memory next (inr x)
  timed_send-by d prio message after until now moment result same memory next (inr (inr x)) =
      absurd (never-expires from old new (MqTimedSend d prio (length message) until now) message
      until now moment result at (send-timed d prio (length message) until now) same x)

  pub timed_send-performs : (d prio : ℕ) (until moment : Deadline) (message after : List ℕ)
      (came : Outcome) → came ≢ outcomes.Refused NoMemory
      → IsNext phase program progress.begun
      (steps.Call (MqTimedSend d prio (length message) until moment)) message →
      Shows (λ _. outcomes.Done) (TimedSend (λ now. now ≡ moment) old new d message prio until)
      came
      → Moved old.number phase program from progress new (reply_line old.number came after)
  timed_send-performs d prio until moment message after came memory next x =
      let t = x.called in
      rw x.outcome (timed_send-by d prio message after until t.now moment x.result t.moment
      (λ is. memory (x.outcome ∙ is)) (rw (sym t.moment) at next) t.how)

  timed_receive-by : (d : ℕ) (before after : List ℕ) (until now moment : Deadline)
      (result : Result Received Fault) → now ≡ moment →
      outcome_by outcomes.Got result ≢ outcomes.Refused NoMemory
      → IsNext phase program progress.begun
      (steps.Call (MqTimedReceive d (length before) until now)) []
      → ReceiveCall receive_says old new (MqTimedReceive d (length before) until now) before after
      result ⊎ WaitedReceive old new (MqTimedReceive d (length before) until now)
      before after result
      ⊎ Expired (λ now. now ≡ moment) old new (MqTimedReceive d (length before) until now) [] result
      × (after ≡ before)
      → Moved old.number phase program from progress new
      (reply_line old.number (outcome_by outcomes.Got result) after)
  timed_receive-by d before after until now moment result same memory next (inl x) =
      received-moves (MqTimedReceive d (length before) until now) before after result refl
      memory next (inl x)
  timed_receive-by d before after until now moment result same memory next (inr (inl x)) =
      received-moves (MqTimedReceive d (length before) until now) before after result refl
      memory next (inr x)
  timed_receive-by d before after until now moment result same memory next (inr (inr x)) =
      absurd (never-expires from old new (MqTimedReceive d (length before) until now) [] until now
      moment result at (receive-timed d (length before) until now) same x.0)

  pub timed_receive-performs : (d room : ℕ) (until moment : Deadline) (after : List ℕ)
      (came : Outcome) → came ≢ outcomes.Refused NoMemory
      → IsNext phase program progress.begun (steps.Call (MqTimedReceive d room until moment)) [] →
      Shows outcomes.Got (TimedReceive (λ now. now ≡ moment) old new d (replicate room 0)
      after until) came
      → Moved old.number phase program from progress new (reply_line old.number came after)
  timed_receive-performs d room until moment after came memory next x =
      let t = x.called in
      let step = rw (sym t.moment, sym (length-replicate {A = ℕ} room 0)) at next in
      rw x.outcome (timed_receive-by d (replicate room 0) after until t.now moment x.result t.moment
      (λ is. memory (x.outcome ∙ is)) step t.how)
