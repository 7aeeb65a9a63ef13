use Rattle.mq_laws.proofs.HeldLaws.{holds-descriptors}
use Rattle.mq_laws.proofs.holds_descriptors.Goals as goal

pub returns : goal.returns
returns c = holds-descriptors c.args.journal.now.records c.requires
