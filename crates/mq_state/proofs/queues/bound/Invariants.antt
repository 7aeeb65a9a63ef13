use Rattle.std.proofs.Common.{◌≡◌, ℕ, ◌<◌, false, get_or}
use Rattle.mq_state.specs.QueueShown.{QueueShown}
use Rattle.mq_state.specs.Queues.{is_bound_to}
use Rattle.mq_state.proofs.queues.bound.Given as goal

abbrev pub invariant-loop-i : goal.invariant-loop-i
invariant-loop-i l = (k : ℕ) (d : QueueShown) → k < l.i →
    is_bound_to l.fn.journal.records l.fn.name (get_or l.fn.queues k d) ≡ false
