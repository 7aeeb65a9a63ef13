-- In a phase whose calls are all made at the same time no wait is withdrawn.
use Rattle.std.proofs.Common.{arith, ◌≡◌, ℕ, true, false, List, [], ◌∷◌, Some, is_none, Result, refl, sym, ◌∙◌, eq-eqb}
use Rattle.std.proofs.lemmas.Bool.{and_parts}
use Rattle.fast_mutex.specs.Items.{Ticket, Grows}
use Rattle.mq.specs.Calls.{Expired, author, recorded}
use Rattle.mq.proofs.Others.{deadline-grown}
use Rattle.mq_model.specs.Deadlines.{deadline_of, has_passed, is_over}
use Rattle.mq_model.specs.ErrorOrder.{timed_reply}
use Rattle.mq_model.specs.Legality.{Legal, payload_of, reply_to}
use Rattle.mq_model.specs.Record.{Past, Record}
use Rattle.mq_model.specs.Waits.{answered_by, wait_deadline}
use Rattle.mq_model.specs.declared.entries.Call.{Call}
use Rattle.mq_model.specs.declared.entries.Call.TheVariants.{MqTimedReceive, MqTimedSend, Withdraw}
use Rattle.mq_model.specs.declared.entries.Deadline.{Deadline}
use Rattle.mq_model.specs.declared.entries.Reply.{Reply}
use Rattle.mq_model.specs.declared.entries.Reply.TheVariants.{Waits, Withdrawn}
use Rattle.mq_model.specs.declared.faults.Fault.{Fault}
use Rattle.script_laws.proofs.Moving.{IsAt, stood}
use Rattle.script_laws.proofs.Splitting.{stands}
use Rattle.script_laws.proofs.Waiting.{legal-grown}

-- a timed call waits only if its deadline has not passed
timed-waits : (until now : Deadline) (reply : Reply) → timed_reply until now reply ≡ Waits →
    has_passed until now ≡ false
timed-waits until now reply is = grind arith

-- if this timed call waits, its deadline has not passed
pub record IsTimed (call : Call) (until now : Deadline) : Type 0 where
  pub deadline : deadline_of call ≡ Some until
  pub waits : (past : Past) (p : ℕ) (name : List ℕ) → reply_to past p call name ≡ Waits →
      has_passed until now ≡ false

pub send-timed : (d prio len : ℕ) (until now : Deadline) →
    IsTimed (MqTimedSend d prio len until now) until now
send-timed d prio len until now = record {
  deadline = refl;
  waits = λ past p name is. timed-waits until now _ is;
}

pub receive-timed : (d room : ℕ) (until now : Deadline) →
    IsTimed (MqTimedReceive d room until now) until now
receive-timed d room until now = record {
  deadline = refl;
  waits = λ past p name is. timed-waits until now _ is;
}

-- no wait is withdrawn at the time at which its call was made
pub never-expires : {R : Type 0} (from : Past) (old new : Ticket Record) (call : Call)
    (given : List ℕ) (until now moment : Deadline) (result : Result R Fault)
    → IsAt old.number from old → IsTimed call until now → now ≡ moment →
    Expired (λ now. now ≡ moment) old new call given result → ⊥
never-expires {R} from old new call given until now moment result at timed made x =
    let p : ℕ = old.number in
    let wait : Record = recorded p call given Waits in
    let end : Record = recorded p (Withdraw x.now) [] (Withdrawn x.wait) in
    let s = stood old x.begun from call given Waits at refl x.begins.calls x.begins.found in
    let open_at : has_passed until now ≡ false = timed.waits s.found p (payload_of call Waits given)
    (sym s.next.reply) in
    let grown : Grows author p (wait ∷ s.found) new.left (end ∷ []) =
    rw (x.begins.calls.number, s.is) at x.ends.grows in
    let e = stands author p end (wait ∷ s.found) new.left grown in
    let legal : Legal (end ∷ e.found) = legal-grown p (end ∷ e.found) new.left e.later
    x.calls.legal in
    let over : is_over (wait_deadline e.found p) x.now ≡ true =
    (and_parts (is_none (answered_by e.found p)) (is_over (wait_deadline e.found p) x.now)
    legal.1.turn).1 in
    let begun : wait_deadline (wait ∷ s.found) p ≡ deadline_of call = rw (eq-eqb p p refl) refl in
    let deadline : wait_deadline e.found p ≡ Some until = deadline-grown e.others ∙ begun ∙
    timed.deadline in
    grind (arith, x.moment, made)
