use Rattle.mq_model.proofs.OthersLeave.{others-leave}
use Rattle.mq_laws.proofs.others_leave.Goals as goal

pub returns : goal.returns
returns c = others-leave c.args.journal.now.records c.args.p
