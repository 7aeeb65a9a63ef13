use Rattle.std.proofs.Common.{◌≡◌, ◌≤◌, ◌<◌, ℕ, false}
use Rattle.mq_state.specs.Room.{can_call}
use Rattle.mq_state.proofs.tables.Tables.nobody_can_call.Given as goal

-- none of the processes before p can make a call
abbrev pub invariant-processes : goal.invariant-processes
invariant-processes l = (q : ℕ) → 1 ≤ q → q < l.p → can_call l.self.bounds l.journal.records q ≡
    false
