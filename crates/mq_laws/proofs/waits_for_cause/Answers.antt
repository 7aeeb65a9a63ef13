use Rattle.mq_laws.proofs.WaitCauses.{waits-for-cause}
use Rattle.mq_laws.proofs.waits_for_cause.Goals as goal

pub returns : goal.returns
returns c = waits-for-cause c.args.journal.now.records c.requires
