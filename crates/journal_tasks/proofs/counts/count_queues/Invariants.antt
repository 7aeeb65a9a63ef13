use Rattle.std.proofs.Common.{◌≡◌, ◌≤◌, count_by}
use Rattle.mq_model.specs.Record.{first}
use Rattle.journal_tasks.specs.Verdict.{creates}
use Rattle.journal_tasks.proofs.counts.count_queues.Given as goal

abbrev pub invariant-loop-place : goal.invariant-loop-place
invariant-loop-place l = record {
  count : l.count ≡ count_by creates (first l.place l.journal.records);
  most : l.count ≤ l.place;
}
