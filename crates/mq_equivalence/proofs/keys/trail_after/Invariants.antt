use Rattle.std.proofs.Common.{◌≡◌}
use Rattle.mq_model.specs.Record.{first}
use Rattle.mq_equivalence.proofs.keys.trail_after.Given as goal

abbrev pub invariant-loop-place : goal.invariant-loop-place
invariant-loop-place l = l.trail ≡ first l.place l.journal.records
