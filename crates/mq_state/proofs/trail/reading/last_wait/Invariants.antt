use Rattle.mq_state.proofs.Waiting.{IsLastBelow}
use Rattle.mq_state.proofs.trail.reading.last_wait.Given as goal

abbrev pub invariant-loop-i : goal.invariant-loop-i
invariant-loop-i l = IsLastBelow l.callers l.q l.kind l.bound l.i l.last
