use Rattle.mq_laws.proofs.Sharing.{threads-share}
use Rattle.mq_laws.proofs.threads_share.Goals as goal

pub returns : goal.returns
returns c = threads-share c.args.journal.now.records
