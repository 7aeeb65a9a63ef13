use Rattle.std.proofs.Common.{◌≡◌}
use Rattle.mq_model.specs.Record.{first}
use Rattle.mq_model.specs.Waits.{open_wait}
use Rattle.journal_tasks.proofs.start.open_wait.Given as goal

abbrev pub invariant-loop-place : goal.invariant-loop-place
invariant-loop-place l = open_wait l.journal.records l.p ≡
    open_wait (first l.place l.journal.records) l.p
