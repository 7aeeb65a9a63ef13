use Rattle.std.proofs.Common.{◌≡◌}
use Rattle.mq_model.specs.Record.{first}
use Rattle.mq_state.proofs.trail.copy_journal.Given as goal

abbrev pub invariant-loop-place : goal.invariant-loop-place
invariant-loop-place l = l.copy.records ≡ first l.place l.journal.records
