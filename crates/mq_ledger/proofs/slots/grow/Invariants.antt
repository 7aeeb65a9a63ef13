use Rattle.std.proofs.Common.{◌≤◌}
use Rattle.mq_ledger.specs.Keeping.{HasMoreVacant}
use Rattle.mq_ledger.proofs.slots.grow.Given as goal

abbrev pub invariant-loop-added : goal.invariant-loop-added
invariant-loop-added l = HasMoreVacant l.initial.slots.items l.slots.items l.initial.vacant l.vacant
    × (l.added ≤ l.vacant)
