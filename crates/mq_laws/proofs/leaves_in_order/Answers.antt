use Rattle.mq_laws.proofs.SendingOrder.{leaves-in-order}
use Rattle.mq_laws.proofs.leaves_in_order.Goals as goal

pub returns : goal.returns
returns c = leaves-in-order c.args.journal.now.records c.requires
