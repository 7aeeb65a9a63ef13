use Rattle.mq_model.proofs.OwnersStart.{owners-start}
use Rattle.mq_model.proofs.owners.Owner.free.Goals as goal

pub returns-clause-starts : goal.returns-clause-starts
returns-clause-starts c = owners-start
