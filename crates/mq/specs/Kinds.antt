-- The kinds of calls, by what they return. A call of a kind satisfies one of the definitions in
-- `Calls`.
use Rattle.std.specs.Prelude.{ℕ, ◌≡◌, ◌≢◌, Bool, true, false, List, [], Option, Some, None, Result, Ok}
use Rattle.fast_mutex.specs.Items.{Ticket}
use Rattle.mq_model.specs.Record.{Record, Past}
use Rattle.mq_model.specs.declared.entries.Received.{Received}
use Rattle.mq_model.specs.declared.entries.Status.{Status}
use Rattle.mq_model.specs.declared.entries.Call.{Call}
use Rattle.mq_model.specs.declared.entries.Call.TheVariants.{MqReceive, MqTimedReceive}
use Rattle.mq_model.specs.declared.entries.Reply.{Reply}
use Rattle.mq_model.specs.declared.entries.Reply.TheVariants.{Waits}
use Rattle.mq_model.specs.Waits.{is_wait}
use Rattle.mq_model.specs.declared.faults.Fault.{Fault}
use Rattle.mq.specs.Asked.{is_opened, is_done, is_attributes, is_notice, is_sent, is_received, gets_message, may_reply}
use Rattle.mq.specs.Says.{open_says, done_says, attributes_says, notice_says, start_send_says, start_receive_says}
use Rattle.mq.specs.Calls.{OneCall, ReceiveCall}

-- What a call returns, given its reply and the journal left, which replies it may get, and what it
-- returns if it waits, in case it may.
pub record Kind (R : Type 0) : Type 0 where
  pub says : Past → Reply → Option R
  pub replies : Reply → Bool
  pub waiting : Option R

abbrev pub open_kind : Kind (Result ℕ Fault)
open_kind = record { says = λ past. open_says; replies = is_opened; waiting = None }

abbrev pub done_kind : Kind (Result (Unit {0}) Fault)
done_kind = record { says = λ past. done_says; replies = is_done; waiting = None }

abbrev pub attributes_kind : Kind (Result Status Fault)
attributes_kind = record { says = λ past. attributes_says; replies = is_attributes; waiting = None }

abbrev pub notice_kind : Kind (Result (Option ℕ) Fault)
notice_kind = record { says = λ past. notice_says; replies = is_notice; waiting = None }

abbrev pub send_kind : Kind (Result Bool Fault)
send_kind = record { says = λ past. start_send_says; replies = is_sent; waiting = Some (Ok false) }

abbrev pub receive_kind : Kind (Result (Option Received) Fault)
receive_kind = record { says = start_receive_says; replies = is_received; waiting = Some (Ok None) }

-- the call is of this kind: the kind allows each reply that the call may get
abbrev pub IsOf : {R : Type 0} → Kind R → Call → Type 0
IsOf k call = (reply : Reply) → may_reply call reply ≡ true → k.replies reply ≡ true

-- the returned value says that the call waits, or that it does not
abbrev pub IsWaiting : {R : Type 0} → Option R → R → Type 0
IsWaiting None returned = ⊥
IsWaiting (Some waiting) returned = returned ≡ waiting

abbrev pub IsOver : {R : Type 0} → Option R → R → Type 0
IsOver None returned = Unit {0}
IsOver (Some waiting) returned = returned ≢ waiting

-- A call of any kind in one critical section. The buffer of a receive held `before` and now holds
-- `after`. The result of any other call depends on its reply alone.
abbrev pub IsCall : {R : Type 0} → (Past → Reply → Option R) → Ticket Record → Ticket Record →
    Call → List ℕ → List ℕ → List ℕ → R → Type 0
IsCall says old new (MqReceive d room) given before after returned = ReceiveCall says old new
    (MqReceive d room) before after returned
IsCall says old new (MqTimedReceive d room until now) given before after returned =
    ReceiveCall says old new (MqTimedReceive d room until now) before after returned
IsCall says old new call given before after returned = OneCall (says []) old new call given returned

-- What holds of each kind. The result of a call tells whether it waits, and depends on the reply
-- alone if the call got no message.
pub record IsKind {R : Type 0} (k : Kind R) : Type 0 where
  pub waits : (past : Past) (reply : Reply) (returned : R) → k.says past reply ≡ Some returned →
      IsWaiting k.waiting returned → reply ≡ Waits
  pub over : (past : Past) (reply : Reply) (returned : R) → k.says past reply ≡ Some returned →
      IsOver k.waiting returned → is_wait reply ≡ false
  pub alone : (past : Past) (reply : Reply) → gets_message reply ≡ false →
      k.says past reply ≡ k.says [] reply
