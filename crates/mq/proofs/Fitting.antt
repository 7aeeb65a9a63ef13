-- A message that was received has room in the buffer that it was put into.
use Rattle.std.proofs.Common.{◌≡◌, ◌≤◌, ◌+◌, ℕ, List, length, drop, ap, ◌∙◌, arith, length-append, Option, Some, Result, IfOk, IfSome}
use Rattle.fast_mutex.specs.Items.{Ticket}
use Rattle.mq_model.specs.Record.{Record, Past}
use Rattle.mq_model.specs.declared.entries.Received.{Received}
use Rattle.mq_model.specs.declared.entries.Call.{Call}
use Rattle.mq_model.specs.declared.entries.Reply.{Reply}
use Rattle.mq_model.specs.declared.faults.Fault.{Fault}
use Rattle.mq_state.specs.Buffers.{filled, with_front, collected, collected_into}
use Rattle.mq_state.specs.declared.collected.Collected.{Collected as Outcome}
use Rattle.mq.specs.Calls.{ReceiveCall}
use Rattle.mq.specs.Says.{start_receive_says, FitsIn}

front-fits : (message before after : List ℕ) → after ≡ with_front message before →
    length after ≡ length before → length message ≤ length before
unfolding with_front
front-fits message before after is same =
    let size : length after ≡ length message + length (drop (length message) before) =
    ap length is ∙ length-append message (drop (length message) before) in
    omega (arith, size, same)

start-fits : (past : Past) (reply : Reply) (result : Result (Option Received) Fault)
    (before after : List ℕ) → start_receive_says past reply ≡ Some result →
    after ≡ filled past reply before → length after ≡ length before →
    IfOk result (λ got. IfSome got (λ received. received.len ≤ length before))
start-fits past reply result before after says fill same = grind (arith, front-fits)

-- for a receive in one critical section
pub receive-fits : {old new : Ticket Record} {call : Call} {before after : List ℕ} {result : Result
    (Option Received) Fault} → ReceiveCall start_receive_says old new call before after result →
    length after ≡ length before →
    IfOk result (λ got. IfSome got (λ received. received.len ≤ length before))
receive-fits {new = new} {before = before} {after = after} {result = result} call same =
    start-fits new.left call.reply result before after call.says_so call.buffer same

pub collect-fits : (past : Past) (p : ℕ) (outcome : Outcome) (before after : List ℕ) →
    Some outcome ≡ collected past p → after ≡ collected_into past p before →
    length after ≡ length before → FitsIn outcome (length before)
collect-fits past p outcome before after value fill same = grind (arith, front-fits)
