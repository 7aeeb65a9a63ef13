use Rattle.mq_equivalence.proofs.Relation.{equivalent-back}
use Rattle.mq_equivalence.proofs.equivalence_is_symmetric.Goals as goal

pub returns : goal.returns
returns c = equivalent-back
