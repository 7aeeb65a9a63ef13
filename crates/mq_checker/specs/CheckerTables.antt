-- When the checker's tables are those of a journal.
use Rattle.std.specs.Prelude.{◌≡◌, ◌+◌, length}
use Rattle.mq_model.specs.Limits.{most_callers, most_processes}
use Rattle.mq_model.specs.Record.{Past}
use Rattle.mq_model.specs.Owners.{OwnersMirror}
use Rattle.mq_model.specs.Callers.{CallersMirror}
use Rattle.mq_checker.specs.TakenTable.{TakenMirror}
use Rattle.mq_checker.specs.declared.tables.Tables.{Tables}

-- the tables say what the definitions say about the journal
pub record TablesMirror (past : Past) (tables : Tables) : Type 0 where
  pub owners : OwnersMirror past tables.owners
  pub callers : CallersMirror past tables.callers
  pub processes : length tables.owners ≡ most_processes + 1
  pub count : length tables.callers ≡ most_callers + 1
  pub taken : TakenMirror past tables.marks
