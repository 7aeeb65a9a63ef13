use Rattle.mq_ledger.proofs.Keeping.{forgets-more}
use Rattle.mq_ledger.proofs.slots.forget.Goals as goal

pub loop-key-preserved : goal.loop-key-preserved
loop-key-preserved c = forgets-more _ _ _ _ _ _ _ c.loop-key.invariant c.forget_at.ensures
