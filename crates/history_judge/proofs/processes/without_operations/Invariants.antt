use Rattle.std.proofs.Common.{◌≡◌, [], length}
use Rattle.history_judge.specs.Processes.{AreByProcess}
use Rattle.history_judge.proofs.processes.without_operations.Given as goal

abbrev pub invariant-loop-n : goal.invariant-loop-n
invariant-loop-n l = record {
  count : length l.histories.items ≡ l.n;
  each : AreByProcess [] l.histories.items;
}
