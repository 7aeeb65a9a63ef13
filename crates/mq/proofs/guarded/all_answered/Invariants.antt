use Rattle.std.proofs.Common.{◌≡◌, ◌≤◌, ◌+◌, ◌-◌}
use Rattle.fast_mutex.specs.Marks.{answer_bits}
use Rattle.mq_model.specs.Waits.{is_answered}
use Rattle.mq.proofs.guarded.all_answered.Given as goal

-- the bits of the processes above `process`
abbrev pub invariant-loop-process : goal.invariant-loop-process
invariant-loop-process l = record {
  few : l.process ≤ 32;
  bits : l.bits ≡ answer_bits (λ p. is_answered l.books.records p) (l.process + 1) (32 - l.process);
}

abbrev pub decreases-loop-process : goal.decreases-loop-process
decreases-loop-process l = l.process
