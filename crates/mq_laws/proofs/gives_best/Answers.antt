use Rattle.mq_laws.proofs.HeldLaws.{gives-best}
use Rattle.mq_laws.proofs.gives_best.Goals as goal

pub returns : goal.returns
returns c = gives-best c.args.journal.now.records c.requires
