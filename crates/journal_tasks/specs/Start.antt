-- The queues with which a script starts after a journal.
use Rattle.std.specs.Prelude.{ℕ, ◌≡◌, ◌<◌, ◌≤◌, true, IfSome, None, Some, length}
use Rattle.mq_model.specs.Legality.{IsFirstIllegal, Legal}
use Rattle.mq_model.specs.Record.{Past, record_at}
use Rattle.mq_model.specs.Waits.{open_wait}
use Rattle.mq_state.specs.Kept.{Kept}
use Rattle.script_runner.specs.Runs.{NoneWaits}
use Rattle.journal_tasks.specs.declared.start.NoStart.{NoStart}
use Rattle.journal_tasks.specs.declared.start.NoStart.TheVariants.{Foreign, Illegal, Waits}

-- the queues of n processes after a journal, without bounds and without an open wait
pub record IsStart (past : Past) (n : ℕ) (books : Kept) : Type 0 where
  pub records : books.records ≡ past
  pub count : books.n ≡ n
  pub bounds : books.bounds ≡ None
  pub stored : books.stored ≡ true
  pub free : NoneWaits past n

-- one of the processes 1 to n has an open wait at this place of a legal journal
pub record WaitsAt (past : Past) (n place : ℕ) : Type 0 where
  pub legal : Legal past
  pub process : ℕ
  pub low : 1 ≤ process
  pub high : process ≤ n
  pub waits : open_wait past process ≡ Some place

-- why a script of n processes cannot continue from a journal
abbrev pub IsNoStart : Past → ℕ → NoStart → Type 0
IsNoStart past n (Illegal place) = IsFirstIllegal past place
IsNoStart past n (Foreign place) = (place < length past) × IfSome (record_at past place)
    (λ r. n < r.entry.process)
IsNoStart past n (Waits place) = WaitsAt past n place
