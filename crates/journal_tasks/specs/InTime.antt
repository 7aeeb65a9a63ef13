-- The answers of searches that were made again with larger budgets until some time had passed.
use Rattle.std.specs.Prelude.{◌≡◌, ◌≤◌, ℕ, ◌+◌, ◌-◌, ◌*◌, ◌^◌, Bool, List, Option, Some, Result, Ok, Err, length, min}
use Rattle.history_judge.specs.Verdicts.{IsJudgement}
use Rattle.history_judge.specs.declared.line.Called.{Called}
use Rattle.history_judge.specs.declared.judgement.Judgement.{Judgement}
use Rattle.journal_tasks.specs.EveryOrder.{AnswersAfter, AnswersAfterInPart, AreFound}
use Rattle.journal_tasks.specs.Judged.{JudgesHistory, StopsInJudgement, budget_for}
use Rattle.journal_tasks.specs.Start.{IsNoStart}
use Rattle.journal_tasks.specs.declared.every_order.Ending.{Ending}
use Rattle.journal_tasks.specs.declared.every_order.Trial.{Trial}
use Rattle.journal_tasks.specs.declared.start.NoStart.{NoStart}
use Rattle.mq_model.specs.Record.{Past}
use Rattle.schedules.specs.declared.outcomes.Collected.{Collected}
use Rattle.script_orders.specs.Stage.{Stage}
use Rattle.script_text.specs.Script.{Whole}

-- the budget of the first search through the interleavings of a script, if the limit is not less
abbrev pub first_for_orders : ℕ
first_for_orders = 10000

-- and of the first check of a history of this number of calls
abbrev pub first_for_calls : ℕ → ℕ
first_for_calls calls = min (10000 + 10 * calls) (2 ^ 64 - 1)

-- The budget of the last search: at most the limit, and no less than that of the first search,
-- which is the limit if that is less.
pub record IsBudgetInTime (first limit budget : ℕ) : Type 0 where
  pub enough : min first limit ≤ budget
  pub within : budget ≤ limit

-- what the last search found from a stage on
pub record AreFoundInTime (limit : ℕ) (from : Stage) (collected : Collected) : Type 0 where
  pub budget : ℕ
  pub fits : IsBudgetInTime first_for_orders limit budget
  pub found : AreFound budget from collected

-- The last search had some budget, up to that of the trial, and the answer is that of a trial with
-- this budget.
pub record AnswersInTime (past : Past) (script : Whole) (bytes : List ℕ) (trial : Trial)
    (ending : Ending) (old new : Option (List ℕ)) : Type 0 where
  pub budget : ℕ
  pub fits : IsBudgetInTime first_for_orders trial.budget budget
  pub answers : AnswersAfter past script bytes (record trial { budget = budget }) ending old new

-- the same, but a proper prefix of the answer was appended
pub record AnswersInTimeInPart (past : Past) (script : Whole) (bytes : List ℕ) (trial : Trial)
    (old new : Option (List ℕ)) : Type 0 where
  pub budget : ℕ
  pub fits : IsBudgetInTime first_for_orders trial.budget budget
  pub answers : AnswersAfterInPart past script bytes (record trial { budget = budget }) old new

-- The answer was written; or nothing was, and there is a reason why the script cannot continue from
-- the journal.
abbrev pub AnswersInTimeOrNot : Past → Whole → List ℕ → Trial → Result Ending NoStart →
    Option (List ℕ) → Option (List ℕ) → Type 0
AnswersInTimeOrNot past script bytes trial (Ok ending) old new = AnswersInTime past script bytes
    trial ending old new
AnswersInTimeOrNot past script bytes trial (Err why) old new = IsNoStart past script.processes why ×
    (new ≡ old)

-- the result of the last check of these calls, and its budget
pub record IsJudgedInTime (limit : ℕ) (calls : List Called) (budget : ℕ)
    (judgement : Judgement) : Type 0 where
  pub fits : IsBudgetInTime (first_for_calls (length calls)) limit budget
  pub judges : IsJudgement budget calls judgement

-- The last check had some budget, up to the given one, and the answer is that of a check with this
-- budget.
pub record JudgesInTime (limit : Option ℕ) (bytes : List ℕ) (with_journal : Bool) (status : ℕ)
    (old new : Option (List ℕ)) : Type 0 where
  pub budget : ℕ
  pub judges : JudgesHistory (Some budget) bytes with_journal status old new
  pub fits : IsBudgetInTime (first_for_calls (length judges.calls))
      (budget_for limit (length judges.calls)) budget

-- the same, but a proper prefix of the answer was appended
pub record StopsInTime (limit : Option ℕ) (bytes : List ℕ) (with_journal : Bool)
    (old new : Option (List ℕ)) : Type 0 where
  pub budget : ℕ
  pub stops : StopsInJudgement (Some budget) bytes with_journal old new
  pub fits : IsBudgetInTime (first_for_calls (length stops.calls))
      (budget_for limit (length stops.calls)) budget
