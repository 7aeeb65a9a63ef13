use Rattle.mq_model.proofs.CallerLines.{IsFirstBelow}
use Rattle.mq_model.proofs.callers.first_wait.Given as goal

abbrev pub invariant-loop-i : goal.invariant-loop-i
invariant-loop-i l = IsFirstBelow l.callers l.q l.kind l.i l.first
