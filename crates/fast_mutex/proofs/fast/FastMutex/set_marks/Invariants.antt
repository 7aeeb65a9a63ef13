use Rattle.std.proofs.Common.{◌≡◌, ◌≤◌, ◌+◌, ◌-◌}
use Rattle.fast_mutex.specs.Marks.{answer_bits}
use Rattle.fast_mutex.specs.Fast.{list_in}
use Rattle.fast_mutex.proofs.FastKeeps.{IsMarking}
use Rattle.fast_mutex.proofs.fast.FastMutex.set_marks.Given as goal

-- the words of the processes below `process` are done, and `old` and `new` have the bits of the
-- others
abbrev pub invariant-loop-old : goal.invariant-loop-old
invariant-loop-old g l = record {
  own : (l.seat.table_id ≡ l.fn.seat.table_id) × (l.seat.id ≡ l.fn.seat.id);
  marking : IsMarking g.S.Logged.items g.S.Logged.fixed g.S.Logged.author g.S.Logged.is_answered
      l.fn.seat.me l.process l.seat.me;
  low : 1 ≤ l.process;
  high : l.process ≤ l.self.count + 1;
  before : l.old ≡ answer_bits (λ p. g.S.Logged.is_answered p l.fn.seat.me.0.found) l.process
      (33 - l.process);
  after : l.new ≡
      answer_bits (λ p. g.S.Logged.is_answered p (list_in g.S.Logged.items l.fn.seat.me.1))
      l.process (33 - l.process);
}

abbrev pub decreases-loop-old : goal.decreases-loop-old
decreases-loop-old g l = l.self.count + 1 - l.process
