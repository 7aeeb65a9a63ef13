use Rattle.mq_model.specs.Callers.{with_answer}
use Rattle.mq_model.proofs.Rows.{changed-set}
use Rattle.mq_model.proofs.callers.set_answer.Goals as goal

pub returns : goal.returns
unfolding with_answer
returns c = changed-set _ c.args.callers.now c.args.p _ c.requires
