use Rattle.std.proofs.Common.{◌≡◌, ◌≤◌}
use Rattle.journal_tasks.specs.Verdict.{processes_to}
use Rattle.journal_tasks.proofs.counts.count_processes.Given as goal

abbrev pub invariant-loop-p : goal.invariant-loop-p
invariant-loop-p l = record {
  count : l.count ≡ processes_to l.p l.journal.records;
  most : l.count ≤ l.p;
}
