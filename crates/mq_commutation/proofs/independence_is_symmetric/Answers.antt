use Rattle.mq_commutation.proofs.Symmetry.{independent-back}
use Rattle.mq_commutation.proofs.independence_is_symmetric.Goals as goal

pub returns : goal.returns
returns c = independent-back
