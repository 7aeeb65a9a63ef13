-- The calls that a history can have: of a process from 1 to 32, with numbers that fit their types.
-- The numbers of a call in the program do, except the end of a call that had not returned, which
-- its line does not have.
use Rattle.std.specs.Prelude.{◌≡◌, ◌<◌, ◌-◌, ◌^◌, true, List, All, IfSome}
use Rattle.std.specs.List.{AllByRecursion}
use Rattle.journal_format.specs.Fitting.{CallFits, StatusFits}
use Rattle.histories.specs.Histories.{is_pending}
use Rattle.histories.specs.declared.operation.Outcome.{Outcome}
use Rattle.histories.specs.declared.operation.Outcome.TheVariants.{Pending, Done, Opened, Got, Attributes, Notice, Refused}
use Rattle.history_judge.specs.Processes.{is_process}
use Rattle.history_judge.specs.declared.line.Called.{Called}

abbrev pub OutcomeFits : Outcome → Type 0
OutcomeFits Pending = Unit {0}
OutcomeFits Done = Unit {0}
OutcomeFits (Opened d) = d < 2 ^ 32
OutcomeFits (Got prio message) = (prio < 2 ^ 32) × All (λ b. b < 256) message.items
OutcomeFits (Attributes status) = StatusFits status
OutcomeFits (Notice value) = IfSome value (λ n. n < 2 ^ 64)
OutcomeFits (Refused fault) = Unit {0}

-- a call that had not returned ended at the greatest time
abbrev pub EndsLast : Called → Type 0
EndsLast c = is_pending c.operation.outcome ≡ true → c.operation.end ≡ 2 ^ 64 - 1

-- The call is of a process from 1 to 32, its other numbers fit their types, and if it had not
-- returned, it ended at the greatest time.
pub record Fits (c : Called) : Type 0 where
  pub process : is_process c.process ≡ true
  pub begin : c.operation.begin < 2 ^ 64
  pub end : c.operation.end < 2 ^ 64
  pub call : CallFits c.operation.call
  pub given : All (λ b. b < 256) c.operation.given.items
  pub outcome : OutcomeFits c.operation.outcome
  pub pending : EndsLast c

-- each call is such
abbrev pub AllFit : List Called → Type 0
AllFit calls = AllByRecursion Fits calls
