-- What it means that a history is linearizable, and what the result of a check says.
use Rattle.std.specs.Prelude.{◌≡◌, ℕ, ◌+◌, ◌-◌, ◌*◌, ◌/◌, ◌<◌, Bool, true, false, is_none, map, max, min, List, length, IfSome, Option, Some, Vec, slice_get}
use Rattle.std.specs.List.{list_all}
use Rattle.std.specs.Int.Count.{count_leading_zeros}
use Rattle.std.specs.declared.alloc.Global.{Global}
use Rattle.mq_model.specs.Record.{Past}
use Rattle.journal_format.specs.Text.{journal_text}
use Rattle.histories.specs.declared.operation.Operation.{Operation}
use Rattle.histories.specs.Histories.{Histories, is_complete}
use Rattle.histories.specs.Judgements.{TakesAllOrders}
use Rattle.histories.specs.Linearizations.{IsLinearization}
use Rattle.histories.specs.RealTime.{AgreesWithRealTime, EndInOrder}
use Rattle.histories.specs.Contradiction.{IsContradiction}
use Rattle.histories.specs.declared.contradiction.Contradiction.{Contradiction}
use Rattle.history_judge.specs.Seen.{AreSameCalls, AreSameOperations, seen_call}
use Rattle.history_judge.specs.Processes.{operations_of, process_count}
use Rattle.history_judge.specs.Descriptors.{no_numbers, renamed}
use Rattle.history_judge.specs.Fitting.{AllFit}
use Rattle.history_judge.specs.WellFormed.{IsWellFormed}
use Rattle.history_judge.specs.Fronts.{AreReturnsOf, Return, front_part}
use Rattle.history_judge.specs.declared.line.Called.{Called}
use Rattle.history_judge.specs.declared.judgement.Answer.{Answer}
use Rattle.history_judge.specs.declared.judgement.Answer.TheVariants as answer
use Rattle.history_judge.specs.declared.judgement.Judgement.{Judgement}
use Rattle.history_judge.specs.declared.judgement.Judgement.TheVariants.{Possible, Impossible, OutOfBudget}

-- The operations of the processes of these calls, each process's in the order of its calls, with
-- this library's numbers of descriptors.
pub record AreHistoriesOf (calls : List Called) (histories : Histories) : Type 0 where
  pub count : length histories ≡ process_count calls
  pub each : (index : ℕ) (operations : Vec Operation Global) →
      slice_get histories index ≡ Some operations →
      AreSameOperations operations.items (renamed no_numbers (operations_of (index + 1) calls))

-- the journal is a linearization of these calls in which each call that returned is completed
pub record Explains (calls : List Called) (past : Past) : Type 0 where
  pub histories : Histories
  pub are : AreHistoriesOf calls histories
  pub linear : IsLinearization histories past
  pub complete : is_complete histories past ≡ true

abbrev pub IsPossible : List Called → Type 0
IsPossible calls = (past : Past) × Explains calls past

abbrev pub IsImpossible : List Called → Type 0
IsImpossible calls = (past : Past) → Explains calls past → ⊥

-- The text is that of a journal that explains these calls. It agrees with real time if the calls of
-- each process end in order.
pub record IsExplainedBy (calls : List Called) (text : List ℕ) : Type 0 where
  pub past : Past
  pub explains : Explains calls past
  pub real_time : EndInOrder explains.histories → AgreesWithRealTime explains.histories past
  pub written : text ≡ journal_text past

-- trying all orders of these calls takes at least this number of steps
pub record UsesUp (budget : ℕ) (calls : List Called) : Type 0 where
  pub histories : Histories
  pub are : AreHistoriesOf calls histories
  pub takes : TakesAllOrders budget histories

abbrev pub IsAnswer : ℕ → List Called → Answer → Type 0
IsAnswer budget calls (answer.Possible journal) = IsExplainedBy calls journal.items
IsAnswer budget calls answer.Impossible = IsImpossible calls
IsAnswer budget calls answer.OutOfBudget = UsesUp budget calls

-- none of these calls had returned when the history ended
abbrev pub are_pending : List Called → Bool
are_pending calls = list_all (λ c. is_none c.operation.reply) (map seen_call calls)

-- the operations of these calls have this contradiction
pub record HasContradiction (calls : List Called) (reason : Contradiction) : Type 0 where
  pub histories : Histories
  pub are : AreHistoriesOf calls histories
  pub contradiction : IsContradiction histories reason

-- The maximum number of prefixes that the search for the shortest one tries, for this number of
-- calls: one for each halving until none is left, and two at a guess.
abbrev pub tries : ℕ → ℕ
tries count = 64 - count_leading_zeros 64 count + 2

-- The budget for each prefix of this number of calls: enough for an order that is found at once,
-- and a part of the whole. All together they have no more than the whole, or a hundred steps each.
-- The result is known by then, so the longer the history, the less each prefix is worth; and a step
-- back costs as much as the history is long.
abbrev pub front_budget : ℕ → ℕ → ℕ
front_budget budget count =
    min (2 * count + budget / (1 + count / 50) / (1 + count / 50)) (max (budget / tries count)
    (min budget 100))

-- The front is a prefix that is not linearizable, with this contradiction if one is given. It ends
-- with the return of the call; the whole history ends with the last return. If it is the shortest,
-- the prefix before it is linearizable. If it may not be, the budget was used up at a shorter one.
-- If the history is well-formed, so is the front, and its numbers fit, so that its text reads well.
pub record IsImpossibleFront (budget : ℕ) (calls : List Called) (call : ℕ) (front : List Called)
    (is_shortest : Bool) (found : Option Contradiction) : Type 0 where
  pub returns : List Return
  pub are : AreReturnsOf calls returns
  pub number : ℕ
  pub last : Return
  pub at : slice_get returns (min number (length returns - 1)) ≡ Some last
  pub of : call ≡ last.1
  pub part : AreSameCalls front (front_part calls returns number)
  pub formed : AllFit calls → IsWellFormed calls → AllFit front × IsWellFormed front
  pub impossible : IsImpossible (front_part calls returns number)
  pub reason : IfSome found (HasContradiction (front_part calls returns number))
  pub shortest : is_shortest ≡ true → (before : ℕ) → before + 1 ≡ number →
      IsPossible (front_part calls returns before)
  pub unsure : is_shortest ≡ false →
      (before : ℕ) × (before < number) × UsesUp budget (front_part calls returns before)

abbrev pub IsJudgement : ℕ → List Called → Judgement → Type 0
IsJudgement budget calls (Possible journal) = IsExplainedBy calls journal.items
IsJudgement budget calls (Impossible call front is_shortest reason) =
    IsImpossibleFront (front_budget budget (length calls)) calls call front.items is_shortest reason
IsJudgement budget calls OutOfBudget = UsesUp budget calls
