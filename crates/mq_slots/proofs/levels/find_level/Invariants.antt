use Rattle.std.proofs.Common.{◌-◌, ℕ, ◌<◌, ◌≤◌, length}
use Rattle.mq_slots.specs.Levels.{level_at}
use Rattle.mq_slots.proofs.levels.find_level.Given as goal

abbrev pub invariant-loop-low : goal.invariant-loop-low
invariant-loop-low l = record {
  order : l.low ≤ l.high;
  within : l.high ≤ length l.levels;
  below : (k : ℕ) → k < l.low → (level_at l.levels k).prio < l.prio;
  rest : (k : ℕ) → l.high ≤ k → k < length l.levels → l.prio ≤ (level_at l.levels k).prio;
}

abbrev pub decreases-loop-low : goal.decreases-loop-low
decreases-loop-low l = l.high - l.low
