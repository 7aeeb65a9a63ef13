use Rattle.mq_laws.proofs.LegalBefore.{are-those-before}
use Rattle.mq_laws.proofs.those_before.Goals as goal

pub returns : goal.returns
returns c = are-those-before c.args.journal.now.records
