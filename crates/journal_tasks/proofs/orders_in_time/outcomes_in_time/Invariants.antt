use Rattle.std.proofs.Common.{◌≡◌, ◌-◌}
use Rattle.script_orders.specs.Stage.{first_stage}
use Rattle.journal_tasks.specs.EveryOrder.{AreFound}
use Rattle.journal_tasks.specs.InTime.{IsBudgetInTime, first_for_orders}
use Rattle.journal_tasks.proofs.orders_in_time.outcomes_in_time.Given as goal

-- what was found is that of a search with this budget
abbrev pub invariant-loop-collected : goal.invariant-loop-collected
invariant-loop-collected g l = record {
  start : first_stage l.play ≡ first_stage l.fn.play;
  fits : IsBudgetInTime first_for_orders l.fn.limit l.budget;
  found : AreFound l.budget (first_stage l.fn.play) l.collected;
}

abbrev pub decreases-loop-collected : goal.decreases-loop-collected
decreases-loop-collected g l = l.fn.limit - l.budget
