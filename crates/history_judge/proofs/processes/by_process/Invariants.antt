use Rattle.std.proofs.Common.{◌≡◌, ◌++◌, length}
use Rattle.std.specs.Vec.Iter.{into_iter_items, into_iter_len}
use Rattle.history_judge.specs.Processes.{AreByProcess}
use Rattle.history_judge.proofs.processes.by_process.Given as goal

abbrev pub invariant-loop-called : goal.invariant-loop-called
invariant-loop-called l = record {
  all : l.yielded ++ into_iter_items l.called-iterator ≡ l.fn.calls.items;
  left : into_iter_len l.called-iterator ≡ length (into_iter_items l.called-iterator);
  count : length l.histories.items ≡ l.fn.count;
  each : AreByProcess l.yielded l.histories.items;
}
