use Rattle.std.proofs.Common.{◌+◌, refl, []}
use Rattle.mq_model.specs.Record.{Past, first}
use Rattle.mq_model.specs.Legality.{Legal}
use Rattle.mq_checker.specs.CheckerTables.{TablesMirror}
use Rattle.mq_checker.specs.declared.tables.Tables.{Tables}
use Rattle.mq_model.proofs.Prefixes.{first-none, legal-first}
use Rattle.mq_checker.proofs.checker.check_history.Goals as goal

starts : (past : Past) (tables : Tables) → TablesMirror [] tables →
    TablesMirror (first 0 past) tables
starts past tables m = rw (first-none past) m

legal-start : (past : Past) → Legal (first 0 past)
legal-start past = rw (first-none past) tt

pub loop-k-init : goal.loop-k-init
loop-k-init c = record {
  legal = legal-start c.args.journal.now.records;
  tables = starts c.args.journal.now.records c.start-tables.result c.start-tables.ensures;
}

pub loop-k-preserved : goal.loop-k-preserved
loop-k-preserved c = record { legal = c.if-not-is_legal_at.ensures.0 refl; tables = c.note.ensures }

pub returns-then-not-is_legal_at-clause-legal : goal.returns-then-not-is_legal_at-clause-legal
returns-then-not-is_legal_at-clause-legal c = (
  λ e. absurd (cc),
  λ legal. let passes = c.is_legal_at.ensures.1 (legal-first c.args.journal.now.records
      (c.loop-k.k + 1) legal) in cc,
)
