use Rattle.std.proofs.Common.{arith}
use Rattle.mq_state.proofs.Waiting.{last-more, last-none, last-some}
use Rattle.mq_state.proofs.trail.reading.last_wait.Goals as goal

pub loop-i-preserved : goal.loop-i-preserved
loop-i-preserved c = rw c.later-last.ensures (last-more c.args.callers.now c.args.q c.args.kind
    c.args.bound c.loop-i.i c.loop-i.last _ c.loop-i.invariant c.pending.ensures)

pub returns-clause-none : goal.returns-clause-none
returns-clause-none c = last-none c.args.callers.now c.args.q c.args.kind c.args.bound c.loop-i.i
    c.loop-i.last c.loop-i.invariant (omega arith)

pub returns-clause-some : goal.returns-clause-some
returns-clause-some c = last-some c.args.callers.now c.args.q c.args.kind c.args.bound c.loop-i.i
    c.loop-i.last c.loop-i.invariant (omega arith)
