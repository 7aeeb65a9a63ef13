use Rattle.std.proofs.Common.{◌≡◌, ℕ, ◌≤◌, vec_len, vec_capacity}
use Rattle.mq_state.specs.Queues.{without_queue}
use Rattle.mq_state.specs.Pool.{Pool}
use Rattle.mq_state.proofs.queues.remove.Given as goal

abbrev pub invariant-loop-i : goal.invariant-loop-i
invariant-loop-i l =
    (without_queue l.queues.items l.q ≡ without_queue l.initial.queues.items l.q)
    × (vec_len l.queues ≤ vec_len l.initial.queues)
    × (vec_capacity l.queues ≡ vec_capacity l.initial.queues)
    × ((m : ℕ) → Pool m l.initial.queues.items l.initial.spares.items
    (vec_capacity l.initial.queues) (vec_capacity l.initial.spares) →
    Pool m l.queues.items l.spares.items (vec_capacity l.queues) (vec_capacity l.spares))

abbrev pub decreases-loop-i : goal.decreases-loop-i
decreases-loop-i l = vec_len l.queues
