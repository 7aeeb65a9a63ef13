use Rattle.mq_laws.proofs.GivenOnce.{gives-once}
use Rattle.mq_laws.proofs.gives_once.Goals as goal

pub returns : goal.returns
returns c = gives-once c.args.journal.now.records c.requires
