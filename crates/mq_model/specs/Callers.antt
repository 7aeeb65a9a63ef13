-- What a table of callers says of the wait of each caller. Caller p has the row at index p. Nothing
-- here is a new definition of the queues: if a table matches a journal, each word here equals the
-- definition of the same name over the journal.
use Rattle.std.specs.Prelude.{ℕ, ◌≡◌, ◌≤◌, Bool, true, false, ◌&&◌, ◌==◌, List, Option, Some, None, is_some, slice_get, if◌then◌else◌}
use Rattle.std.specs.List.{count_by, position}
use Rattle.std.specs.Option.{option_map, option_and_then}
use Rattle.mq_model.specs.Record.{Past}
use Rattle.mq_model.specs.Rows.{changed}
use Rattle.mq_model.specs.Descriptors.{is_place}
use Rattle.mq_model.specs.Messages.{is_in, is_send, blocked_sends, blocked_receives, waiting_sends, waiting_receives}
use Rattle.mq_model.specs.Waits.{open_wait, wait_deadline, answered_by}
use Rattle.mq_model.specs.declared.entries.Call.{Call}
use Rattle.mq_model.specs.declared.callers.WaitKind.{WaitKind}
use Rattle.mq_model.specs.declared.callers.WaitKind.TheVariants.{Send, Receive}
use Rattle.mq_model.specs.declared.callers.OpenWait.{OpenWait}
use Rattle.mq_model.specs.declared.callers.Caller.{Caller}

unfoldable pub wait_in : List Caller → ℕ → Option OpenWait
wait_in callers p = option_and_then (λ x. x.wait) (slice_get callers p)

unfoldable pub answer_in : List Caller → ℕ → Option ℕ
answer_in callers p = option_and_then (λ x. x.answer) (slice_get callers p)

-- the wait is of the wanted kind
abbrev pub is_kind : WaitKind → WaitKind → Bool
is_kind Send Send = true
is_kind Receive Receive = true
is_kind wanted kind = false

-- the kind of wait that a call begins: that of a send, or else of a receive
abbrev pub wait_kind : Call → WaitKind
wait_kind call = if is_send call then Send else Receive

-- the place of a wait that is not answered, if it is of this kind on queue q
abbrev pub pending : Option OpenWait → Option ℕ → ℕ → WaitKind → Option ℕ
pending None answer q kind = None
pending (Some w) (Some by) q kind = None
pending (Some w) None q kind = if w.queue == q && is_kind kind w.kind then Some w.place else None

unfoldable pub pending_in : List Caller → ℕ → ℕ → WaitKind → Option ℕ
pending_in callers p q kind = pending (wait_in callers p) (answer_in callers p) q kind

-- Caller p has waited on queue q since this place, and no caller since an earlier one.
pub record IsFirstWait (callers : List Caller) (q : ℕ) (kind : WaitKind)
    (p place : ℕ) : Type 0 where
  pub waits : pending_in callers p q kind ≡ Some place
  pub least : (k w : ℕ) → pending_in callers k q kind ≡ Some w → place ≤ w

unfoldable pub with_wait : List Caller → ℕ → Option OpenWait → List Caller
with_wait callers p w = changed (λ x. record { wait = w; answer = None }) callers p

unfoldable pub with_answer : List Caller → ℕ → ℕ → List Caller
with_answer callers p by = changed (λ x. record { wait = x.wait; answer = Some by }) callers p

-- the first caller whose open wait began at this place
unfoldable pub waiter_in : List Caller → ℕ → Option ℕ
waiter_in callers place = position (λ x. is_place place (option_map (λ w. w.place) x.wait)) callers

-- how many callers have an open wait
unfoldable pub waits_count : List Caller → ℕ
waits_count callers = count_by (λ x. is_some x.wait) callers

abbrev pub free_caller : Caller
free_caller = record { wait = None; answer = None }

-- the sends to a queue that began to wait, or the receives
abbrev pub blocked : Past → WaitKind → ℕ → List ℕ
blocked past Send q = blocked_sends past q
blocked past Receive q = blocked_receives past q

-- the sends, or receives, that wait on a queue
abbrev pub waiting : Past → WaitKind → ℕ → List ℕ
waiting past Send q = waiting_sends past q
waiting past Receive q = waiting_receives past q

-- the table says what the definitions say about the journal
pub record CallersMirror (past : Past) (callers : List Caller) : Type 0 where
  pub waits : (p : ℕ) → option_map (λ w. w.place) (wait_in callers p) ≡ open_wait past p
  pub blocked : (p : ℕ) (w : OpenWait) → wait_in callers p ≡ Some w →
      is_in (blocked past w.kind w.queue) w.place ≡ true
  pub deadlines : (p : ℕ) → option_and_then (λ w. w.until) (wait_in callers p) ≡
      wait_deadline past p
  pub answers : (p : ℕ) → answer_in callers p ≡ answered_by past p
