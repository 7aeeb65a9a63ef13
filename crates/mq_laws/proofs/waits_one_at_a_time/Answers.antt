use Rattle.mq_laws.proofs.OneWait.{waits-one-at-a-time}
use Rattle.mq_laws.proofs.waits_one_at_a_time.Goals as goal

pub returns : goal.returns
returns c = waits-one-at-a-time c.args.journal.now.records c.requires
