use Rattle.std.proofs.Common.{◌≡◌, ◌++◌}
use Rattle.mq_model.specs.Callers.{waiting}
use Rattle.mq_state.proofs.Waiting.{below}
use Rattle.mq_state.proofs.trail.Trail.waiting.Given as goal

abbrev pub invariant-loop-place : goal.invariant-loop-place
invariant-loop-place l = l.places.items ++ below l.bound (waiting l.self l.kind l.q) ≡
    waiting l.self l.kind l.q

abbrev pub decreases-loop-place : goal.decreases-loop-place
decreases-loop-place l = l.bound
