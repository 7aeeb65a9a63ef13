use Rattle.mq_equivalence.proofs.Relation.{equivalent-self}
use Rattle.mq_equivalence.proofs.equivalence_is_reflexive.Goals as goal

pub returns : goal.returns
returns c = equivalent-self
