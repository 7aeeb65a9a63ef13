use Rattle.mq_model.proofs.OwnersStart.{callers-start}
use Rattle.mq_model.proofs.callers.Caller.free.Goals as goal

pub returns-clause-starts : goal.returns-clause-starts
returns-clause-starts c = callers-start
