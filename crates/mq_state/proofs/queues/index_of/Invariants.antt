use Rattle.std.proofs.Common.{◌-◌, ℕ, ◌<◌, ◌≤◌, length, get_or}
use Rattle.mq_state.specs.QueueShown.{QueueShown}
use Rattle.mq_state.proofs.queues.index_of.Given as goal

abbrev pub invariant-loop-low : goal.invariant-loop-low
invariant-loop-low l = record {
  order : l.low ≤ l.high;
  within : l.high ≤ length l.queues;
  below : (k : ℕ) (d : QueueShown) → k < l.low → (get_or l.queues k d).place < l.q;
  rest : (k : ℕ) (d : QueueShown) → l.high ≤ k → k < length l.queues →
      l.q ≤ (get_or l.queues k d).place;
}

abbrev pub decreases-loop-low : goal.decreases-loop-low
decreases-loop-low l = l.high - l.low
