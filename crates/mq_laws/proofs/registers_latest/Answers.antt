use Rattle.mq_laws.proofs.Registered.{registers-latest}
use Rattle.mq_laws.proofs.registers_latest.Goals as goal

pub returns : goal.returns
returns c = registers-latest c.args.journal.now.records c.requires
