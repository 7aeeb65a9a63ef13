use Rattle.std.proofs.Common.{rules}
use Rattle.mq.proofs.Fitting.{receive-fits}
use Rattle.mq.proofs.process.Process.start_receive.Goals as goal

pub returns-clause-fits : goal.returns-clause-fits
returns-clause-fits g c = receive-fits c.make-departed.ensures.call (search rules)
