use Rattle.std.proofs.Common.{◌≡◌, ◌≤◌, length, vec_capacity}
use Rattle.std.specs.List.{All}
use Rattle.mq_state.specs.Pool.{IsSpare}
use Rattle.mq_state.proofs.queues.spare_orders.Given as goal

abbrev pub invariant-loop : goal.invariant-loop
invariant-loop l = All IsSpare l.spares.items × (length l.spares.items ≡ l.counter) ×
    (l.count ≤ vec_capacity l.spares)
