-- What is printed for the reply to a call is the line of what the call returned.
use Rattle.std.proofs.Common.{arith, ◌≡◌, ℕ, List, Option, Some, None, Result, Err, refl}
use Rattle.std.proofs.Math.Seq.{take-append_seam, take-length}
use Rattle.mq_model.specs.Record.{Past}
use Rattle.mq_model.specs.declared.entries.Reply.{Reply}
use Rattle.mq_model.specs.declared.entries.Reply.TheVariants.{Waits, Refused}
use Rattle.mq_model.specs.declared.faults.Fault.{Fault}
use Rattle.mq_state.specs.Buffers.{filled, with_front, message_at, received_at}
use Rattle.mq.specs.Says.{attributes_says, done_says, notice_says, open_says, receive_says, send_says}
use Rattle.script_orders.specs.Said.{said, said_of_message}
use Rattle.script_runner.specs.Runs.{outcome_by}
use Rattle.script_text.specs.Replies.{reply_line}
use Rattle.script_text.specs.declared.reply.Outcome.{Outcome}
use Rattle.script_text.specs.declared.reply.Outcome.TheVariants as outcomes

-- What a call returns for a reply, shown, is what is printed for it. It returns nothing for a reply
-- by which it waits, and returns each error.
pub record Tells {A : Type 0} (says : Past → Reply → Option (Result A Fault)) (shows : A → Outcome)
    (buffer : Past → Reply → List ℕ) : Type 0 where
  pub waits : (past : Past) → says past Waits ≡ None
  pub refuses : (past : Past) (fault : Fault) → says past (Refused fault) ≡ Some (Err fault)
  pub prints : (past : Past) (p : ℕ) (reply : Reply) (result : Result A Fault) →
      says past reply ≡ Some result → said past p reply ≡ reply_line p (outcome_by shows result)
      (buffer past reply)

-- a message at the start of a buffer is printed unchanged
pub message-prints : (past : Past) (p place : ℕ) (before : List ℕ) →
    said_of_message past p place ≡ reply_line p (outcomes.Got (received_at past place))
    (with_front (message_at past place) before)
unfolding with_front
message-prints past p place before = grind (arith, take-length, take-append_seam)

pub open-tells : (buffer : List ℕ) →
    Tells (λ _ reply. open_says reply) outcomes.Opened (λ _ _. buffer)
open-tells buffer = record {
  waits = λ past. refl;
  refuses = λ past fault. refl;
  prints = λ past p reply result h. grind arith;
}

pub done-tells : (buffer : List ℕ) →
    Tells (λ _ reply. done_says reply) (λ _. outcomes.Done) (λ _ _. buffer)
done-tells buffer = record {
  waits = λ past. refl;
  refuses = λ past fault. refl;
  prints = λ past p reply result h. grind arith;
}

pub attributes-tells : (buffer : List ℕ) →
    Tells (λ _ reply. attributes_says reply) outcomes.Attrs (λ _ _. buffer)
attributes-tells buffer = record {
  waits = λ past. refl;
  refuses = λ past fault. refl;
  prints = λ past p reply result h. grind arith;
}

pub notice-tells : (buffer : List ℕ) →
    Tells (λ _ reply. notice_says reply) outcomes.Notice (λ _ _. buffer)
notice-tells buffer = record {
  waits = λ past. refl;
  refuses = λ past fault. refl;
  prints = λ past p reply result h. grind arith;
}

pub send-tells : (buffer : List ℕ) →
    Tells (λ _ reply. send_says reply) (λ _. outcomes.Done) (λ _ _. buffer)
send-tells buffer = record {
  waits = λ past. refl;
  refuses = λ past fault. refl;
  prints = λ past p reply result h. grind arith;
}

pub receive-tells : (before : List ℕ) →
    Tells receive_says outcomes.Got (λ past reply. filled past reply before)
receive-tells before = record {
  waits = λ past. refl;
  refuses = λ past fault. refl;
  prints = λ past p reply result h. grind (arith, message-prints);
}
