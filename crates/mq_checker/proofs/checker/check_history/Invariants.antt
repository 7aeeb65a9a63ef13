use Rattle.mq_model.specs.Record.{first}
use Rattle.mq_model.specs.Legality.{Legal}
use Rattle.mq_checker.specs.CheckerTables.{TablesMirror}
use Rattle.mq_checker.proofs.checker.check_history.Given as goal

abbrev pub invariant-loop-k : goal.invariant-loop-k
invariant-loop-k l = record {
  legal : Legal (first l.k l.journal.records);
  tables : TablesMirror (first l.k l.journal.records) l.tables;
}
