use Rattle.std.proofs.Common.{◌≡◌, ◌≤◌, max, drop}
use Rattle.history_judge.specs.Processes.{process_count}
use Rattle.history_judge.proofs.processes.process_count.Given as goal

abbrev pub invariant-loop-called : goal.invariant-loop-called
invariant-loop-called l = record {
  few : l.count ≤ 32;
  greatest : max l.count (process_count (drop l.called-index l.calls)) ≡ process_count l.calls;
}
