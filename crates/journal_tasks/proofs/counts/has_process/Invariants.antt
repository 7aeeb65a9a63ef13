use Rattle.std.proofs.Common.{◌≡◌, false}
use Rattle.mq_model.specs.Record.{first}
use Rattle.journal_tasks.specs.Verdict.{has_process}
use Rattle.journal_tasks.proofs.counts.has_process.Given as goal

abbrev pub invariant-loop-place : goal.invariant-loop-place
invariant-loop-place l = has_process (first l.place l.journal.records) l.p ≡ false
