use Rattle.mq_laws.proofs.AsBefore.{is-as-before}
use Rattle.mq_laws.proofs.as_before.Goals as goal

pub returns : goal.returns
returns c = is-as-before c.args.journal.now.records c.requires
