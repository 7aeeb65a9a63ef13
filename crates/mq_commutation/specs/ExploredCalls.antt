-- Steps of an exploration that make calls of the queues.
use Rattle.std.specs.Prelude.{◌≡◌, ℕ, true, false, Some, None}
use Rattle.std.specs.List.{Contains}
use Rattle.mq_model.specs.Record.{Past, Queue}
use Rattle.mq_model.specs.Threads.{shares}
use Rattle.mq_model.specs.Messages as messages
use Rattle.mq_model.specs.declared.entries.Reply.TheVariants.{Queued, Got}
use Rattle.mq_equivalence.specs.Runs.{Request}
use Rattle.mq_commutation.specs.Independence.{only_reads, queue_touched, reply_of, stays_filled}
use Rattle.exploration.specs.Dependence.{is_receive, is_send, is_wait}
use Rattle.exploration.specs.declared.deed.Deed.{Deed}
use Rattle.exploration.specs.declared.deed.Effect.{Effect}

-- a send that queues a message of the effect's priority, on a queue without a registration or on
-- one whose number of messages is not one
pub record IsSend (past : Past) (a : Request) (effect : Effect) : Type 0 where
  pub call : messages.is_send a.call ≡ true
  pub queued : reply_of past a ≡ Queued None
  pub urgency : messages.priority_given a.call ≡ effect.priority
  pub unregistered : stays_filled past (queue_touched past a) ≡ true

-- a receive that gets a message of the effect's priority, and admits no send
pub record IsReceive (past : Past) (a : Request) (effect : Effect) : Type 0 where
  pub message : ℕ
  pub got : reply_of past a ≡ Got message None None
  pub urgency : messages.priority past message ≡ effect.priority

-- The step makes the call. Its effect is on the object of the queue that the call is about, it only
-- reads if the call only reads, and it is not a half of a wait on a condition variable.
pub record IsCall (past : Past) (object : Queue → ℕ) (a : Request) (d : Deed) : Type 0 where
  pub effect : Effect
  pub among : Contains d.effects.items effect
  pub queue : (q : Queue) → queue_touched past a ≡ Some q → object q ≡ effect.object
  pub looks : effect.looks ≡ true → only_reads a.call ≡ true
  pub sends : is_send effect.kind ≡ true → effect.looks ≡ false → IsSend past a effect
  pub receives : is_receive effect.kind ≡ true → effect.looks ≡ false → IsReceive past a effect
  pub waits : is_wait effect.kind ≡ false

-- one thread makes the calls of one process
pub record OwnThreads (a b : Request) (d e : Deed) : Type 0 where
  pub own : shares a.process b.process ≡ true → d.choice.thread ≡ e.choice.thread
