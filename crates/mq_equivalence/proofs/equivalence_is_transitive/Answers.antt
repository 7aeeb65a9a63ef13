use Rattle.mq_equivalence.proofs.Relation.{equivalent-both}
use Rattle.mq_equivalence.proofs.equivalence_is_transitive.Goals as goal

pub returns : goal.returns
returns c = equivalent-both
