use Rattle.std.proofs.Common.{arith}
use Rattle.mq_ledger.proofs.Keeping.{more-again}
use Rattle.mq_ledger.proofs.slots.grow.Goals as goal

pub returns-in_err-add_vacant-clause-added : goal.returns-in_err-add_vacant-clause-added
returns-in_err-add_vacant-clause-added c = more-again _ _ _ _ _ _ c.loop-added.invariant.0
    c.add_vacant.ensures.added

pub loop-added-preserved : goal.loop-added-preserved
loop-added-preserved c =
    (more-again _ _ _ _ _ _ c.loop-added.invariant.0 c.add_vacant.ensures.added, grind arith)
