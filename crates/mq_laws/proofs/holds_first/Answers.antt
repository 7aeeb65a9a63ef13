use Rattle.mq_laws.proofs.Sharing.{holds-first}
use Rattle.mq_laws.proofs.holds_first.Goals as goal

pub returns : goal.returns
returns c = holds-first c.args.journal.now.records c.requires
