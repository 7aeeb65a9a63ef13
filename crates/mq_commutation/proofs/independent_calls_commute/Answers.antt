use Rattle.mq_commutation.proofs.Independent.{independent-commute}
use Rattle.mq_commutation.proofs.independent_calls_commute.Goals as goal

pub returns : goal.returns
returns c = independent-commute
