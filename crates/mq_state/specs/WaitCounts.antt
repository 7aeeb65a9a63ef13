-- How many callers wait on a queue.
use Rattle.std.specs.Prelude.{ℕ, ◌≡◌, ◌==◌, Bool, false, List, Option, Some, None}
use Rattle.std.specs.List.{count_by}
use Rattle.std.specs.Option.{option_map}
use Rattle.mq_model.specs.Callers.{wait_in}
use Rattle.mq_model.specs.declared.callers.OpenWait.{OpenWait}
use Rattle.mq_model.specs.declared.callers.Caller.{Caller}
use Rattle.mq_state.specs.declared.moves.WaitMove.{WaitMove}
use Rattle.mq_state.specs.declared.moves.WaitMove.TheVariants.{Stays, Begins, Ends}
use Rattle.mq_state.specs.QueueShown.{QueueShown}
use Rattle.mq_state.specs.Queues.{queue_in, changed, with_waiting}

-- the wait is on queue q
abbrev pub waits_on : ℕ → Option OpenWait → Bool
waits_on q None = false
waits_on q (Some w) = w.queue == q

-- how many callers have an open wait on queue q
unfoldable pub wait_count : ℕ → List Caller → ℕ
wait_count q callers = count_by (λ x. waits_on q x.wait) callers

-- each row says how many callers wait on its queue
abbrev pub KnowWaits : List Caller → List QueueShown → Type 0
KnowWaits callers queues = (q : ℕ) (x : QueueShown) → queue_in queues q ≡ Some x →
    x.waiting ≡ wait_count q callers

-- The queue on which an entry of caller p, made on queue q, begins or ends a wait. `callers` is the
-- table of callers before the entry.
abbrev pub moved_queue : List Caller → ℕ → WaitMove → ℕ → Option ℕ
moved_queue callers p Stays q = None
moved_queue callers p Begins q = Some q
moved_queue callers p Ends q = option_map (λ w. w.queue) (wait_in callers p)

-- the table of queues after the row of that queue was updated with the number of those that wait
abbrev pub waits_noted : Option ℕ → List Caller → List QueueShown → List QueueShown
waits_noted None callers queues = queues
waits_noted (Some q) callers queues = changed (with_waiting (wait_count q callers)) queues q
