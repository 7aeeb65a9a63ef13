use Rattle.mq_equivalence.proofs.Runs.{runs-equivalent}
use Rattle.mq_equivalence.proofs.runs_stay_equivalent.Goals as goal

pub returns : goal.returns
returns c = runs-equivalent
