use Rattle.std.proofs.Common.{arith}
use Rattle.mq_equivalence.specs.Key.{process_code}
use Rattle.mq_equivalence.proofs.Appends.{code-more, codes-numbers, numbered-done}
use Rattle.mq_equivalence.proofs.parts.push_processes.Goals as goal

pub loop-p-preserved : goal.loop-p-preserved
loop-p-preserved c =
    code-more _ _ _ _ _ _ c.loop-p.invariant
    (codes-numbers (process_code c.args.width c.args.trail.now) c.loop-p.p c.args.count
    (omega arith)) c.in_ok-push_process.ensures

pub returns : goal.returns
returns c =
    numbered-done (process_code c.args.width c.args.trail.now) c.loop-p.key.items _
    c.args.key.now.items c.args.count c.loop-p.p c.loop-p.invariant c.loop-p-test.false
    c.in_ok-push_number.ensures
