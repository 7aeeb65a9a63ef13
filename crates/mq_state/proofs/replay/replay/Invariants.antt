use Rattle.std.proofs.Common.{None}
use Rattle.mq_model.specs.Record.{first}
use Rattle.mq_state.specs.Kept.{AreThoseOf}
use Rattle.mq_state.specs.Pool.{IsPooled}
use Rattle.mq_state.proofs.replay.replay.Given as goal

abbrev pub invariant-loop-place : goal.invariant-loop-place
invariant-loop-place l = record {
  tables : AreThoseOf (first l.place l.journal.records) l.tables;
  pool : IsPooled None l.tables;
}
