use Rattle.mq_model.specs.Callers.{free_caller, with_wait}
use Rattle.mq_model.proofs.Rows.{changed-set}
use Rattle.mq_model.proofs.callers.set_wait.Goals as goal

pub returns : goal.returns
unfolding with_wait
returns c = changed-set _ c.args.callers.now c.args.p free_caller c.requires
