use Rattle.mq_laws.proofs.HeldLaws.{wait-holds}
use Rattle.mq_laws.proofs.holds_alone.Goals as goal

pub returns : goal.returns
returns c = wait-holds c.args.journal.now.records
