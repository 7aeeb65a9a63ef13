use Rattle.std.proofs.Common.{◌-◌, length}
use Rattle.history_judge.specs.Verdicts.{IsJudgement}
use Rattle.journal_tasks.specs.InTime.{IsBudgetInTime, first_for_calls}
use Rattle.journal_tasks.proofs.judging_in_time.judged_in_time.Given as goal

-- the judgement is that of a check with this budget
abbrev pub invariant-loop-alloc : goal.invariant-loop-alloc
invariant-loop-alloc g l = record {
  fits : IsBudgetInTime (first_for_calls (length l.fn.calls)) l.fn.limit l.budget;
  judges : IsJudgement l.budget l.fn.calls l.judgement;
}

abbrev pub decreases-loop-alloc : goal.decreases-loop-alloc
decreases-loop-alloc g l = l.fn.limit - l.budget
