-- The answer about all interleavings of the calls of a script.
use Rattle.std.specs.Prelude.{◌≡◌, ◌≤◌, ◌*◌, ℕ, zero, suc, Bool, true, false, List, [], Option, None, Some, Result, Ok, Err, if◌then◌else◌, length, slice_get}
use Rattle.std.specs.List.{All, list_any}
use Rattle.std.specs.Option.{option_map, unwrap_or}
use Rattle.std.specs.Io.KnownBytes as known
use Rattle.text_io.specs.Output.{AppendsTooLittle}
use Rattle.mq_model.specs.Record.{Past}
use Rattle.script_text.specs.Script.{Whole}
use Rattle.journal_format.specs.Text.{journal_text}
use Rattle.schedules.specs.Schedules.{after}
use Rattle.schedules.specs.Outcomes.{AreAll, AreDistinct, AreFoundWithin, IsWitness}
use Rattle.schedules.specs.Work.{TakesAll}
use Rattle.schedules.specs.declared.outcomes.Collected.{Collected}
use Rattle.schedules.specs.declared.outcomes.Witnessed.{Witnessed}
use Rattle.script_orders.specs.Orders.{AreLegal, BeginsAfter}
use Rattle.script_orders.specs.Report.{report_text}
use Rattle.script_orders.specs.Stage.{Stage, choice_count, next_stage, observed, stands_still}
use Rattle.journal_tasks.specs.Start.{IsNoStart}
use Rattle.journal_tasks.specs.declared.every_order.Ending.{Ending}
use Rattle.journal_tasks.specs.declared.every_order.Ending.TheVariants.{Well, NoSuch, NotReached, Deadlock, OutOfBudget}
use Rattle.journal_tasks.specs.declared.every_order.Trial.{Trial}
use Rattle.journal_tasks.specs.declared.start.NoStart.{NoStart}

-- the exit status of the program
abbrev pub ending_status : Ending → ℕ
ending_status Well = 0
ending_status NoSuch = 1
ending_status NotReached = 6
ending_status Deadlock = 5
ending_status OutOfBudget = 6

-- What was found from a stage on. Each item has a schedule that leads to it, and no two items are
-- the same. If the search is complete there is nothing else. If not, it took as many steps as the
-- budget has, and a complete one takes at least as many. If it is complete, its steps lead to all
-- that was found and back. At most one state is kept for two steps. The journal after each schedule
-- is legal.
pub record AreFound (budget : ℕ) (from : Stage) (collected : Collected) : Type 0 where
  pub witnessed : All (IsWitness next_stage stands_still observed from) collected.found.items
  pub distinct : AreDistinct collected.found.items
  pub all : collected.complete ≡ true →
      AreAll next_stage stands_still observed from collected.found.items
  pub used_up : collected.complete ≡ false →
      TakesAll next_stage choice_count (λ depth. 1) budget from
  pub steps : (collected.steps ≤ budget) × (collected.complete ≡ false → collected.steps ≡ budget)
  pub within : collected.complete ≡ true → AreFoundWithin collected.steps collected.found.items
  pub states : 2 * collected.states ≤ collected.steps
  pub legal : AreLegal from

-- the item with this number, counted from 1
abbrev pub numbered : List Witnessed → ℕ → Option Witnessed
numbered found zero = None
numbered found (suc index) = slice_get found index

-- the text of the journal after a schedule from this stage
abbrev pub journal_of : Stage → List ℕ → List ℕ
journal_of from schedule = unwrap_or (option_map (λ (to : Stage). journal_text to.past)
    (after next_stage schedule from)) []

-- the journal that leads to the item with a number, if there is one
abbrev pub numbered_text : Stage → Option Witnessed → List ℕ
numbered_text from None = []
numbered_text from (Some one) = journal_of from one.schedule.items

-- the answer: the report, or the journal with a number
abbrev pub answer_text : Option ℕ → ℕ → Stage → Collected → List ℕ
answer_text None phases from collected = report_text phases collected.found.items collected.complete
    collected.steps collected.states
answer_text (Some number) phases from collected =
    numbered_text from (numbered collected.found.items number)

abbrev pub has_deadlock : List Witnessed → Bool
has_deadlock found = list_any (λ one. one.outcome.stuck) found

-- the result of trying the interleavings
abbrev pub ending_of : Collected → Ending
ending_of collected =
    if has_deadlock collected.found.items then Deadlock
    else (if collected.complete then Well else OutOfBudget)

abbrev pub ending_if : Collected → Option Witnessed → Ending
ending_if collected None = if collected.complete then NoSuch else NotReached
ending_if collected (Some one) = ending_of collected

-- the result, given whether the report or the journal with a number is wanted
abbrev pub answer_ending : Option ℕ → Collected → Ending
answer_ending None collected = ending_of collected
answer_ending (Some number) collected = ending_if collected (numbered collected.found.items number)

-- All interleavings of a script were tried, unless the budget was used up, and the answer was
-- appended to known bytes. The script, which has these bytes, starts after the calls of a journal.
pub record AnswersAfter (past : Past) (script : Whole) (bytes : List ℕ) (trial : Trial)
    (ending : Ending) (old new : Option (List ℕ)) : Type 0 where
  pub from : Stage
  pub begins : BeginsAfter past script from
  pub says : from.script ≡ bytes
  pub collected : Collected
  pub found : AreFound trial.budget from collected
  pub ends : ending ≡ answer_ending trial.journal collected
  pub written : known.Appends old new (answer_text trial.journal
      (length script.phases) from collected)

-- the same, but a proper prefix of the answer was appended
pub record AnswersAfterInPart (past : Past) (script : Whole) (bytes : List ℕ) (trial : Trial)
    (old new : Option (List ℕ)) : Type 0 where
  pub from : Stage
  pub begins : BeginsAfter past script from
  pub says : from.script ≡ bytes
  pub collected : Collected
  pub found : AreFound trial.budget from collected
  pub written : AppendsTooLittle old new (answer_text trial.journal
      (length script.phases) from collected)

-- the same for a script that starts with the empty journal
abbrev pub Answers : Whole → List ℕ → Trial → Ending → Option (List ℕ) → Option (List ℕ) → Type 0
Answers script bytes trial ending old new = AnswersAfter [] script bytes trial ending old new

abbrev pub AnswersInPart : Whole → List ℕ → Trial → Option (List ℕ) → Option (List ℕ) → Type 0
AnswersInPart script bytes trial old new = AnswersAfterInPart [] script bytes trial old new

-- The answer was written; or nothing was, and there is a reason why the script cannot continue from
-- the journal.
abbrev pub AnswersOrNot : Past → Whole → List ℕ → Trial → Result Ending NoStart → Option (List ℕ) →
    Option (List ℕ) → Type 0
AnswersOrNot past script bytes trial (Ok ending) old new =
    AnswersAfter past script bytes trial ending old new
AnswersOrNot past script bytes trial (Err why) old new = IsNoStart past script.processes why ×
    (new ≡ old)
