use Rattle.std.proofs.Common.{arith}
use Rattle.mq_model.proofs.CallerLines.{first-none, first-some}
use Rattle.mq_model.proofs.callers.first_wait.Goals as goal

pub returns-clause-none : goal.returns-clause-none
returns-clause-none c = first-none c.args.callers.now c.args.q c.args.kind c.loop-i.i c.loop-i.first
    c.loop-i.invariant (omega arith)

pub returns-clause-some : goal.returns-clause-some
returns-clause-some c = first-some c.args.callers.now c.args.q c.args.kind c.loop-i.i c.loop-i.first
    c.loop-i.invariant (omega arith)
