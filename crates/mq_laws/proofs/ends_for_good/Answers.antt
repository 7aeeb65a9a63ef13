use Rattle.mq_laws.proofs.GoneQueues.{ends-for-good}
use Rattle.mq_laws.proofs.ends_for_good.Goals as goal

pub returns : goal.returns
returns c = ends-for-good c.args.journal.now.records c.requires
