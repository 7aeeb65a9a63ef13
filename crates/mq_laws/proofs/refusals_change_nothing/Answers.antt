use Rattle.mq_laws.proofs.Refusals.{refusals-change-nothing}
use Rattle.mq_laws.proofs.refusals_change_nothing.Goals as goal

pub returns : goal.returns
returns c = refusals-change-nothing c.args.journal.now.records c.requires
