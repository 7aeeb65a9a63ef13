use Rattle.mq_commutation.proofs.Independent.{independent-commute}
use Rattle.mq_commutation.proofs.ExploredSteps.{steps-independent}
use Rattle.mq_commutation.proofs.explored.independent_steps_commute.Goals as goal

pub returns : goal.returns
returns c = λ past object a b d e legal may_a may_b covered_a covered_b threads notices first
    second independent.
    independent-commute past a b legal may_a may_b covered_a covered_b
    (steps-independent past object a b d e covered_a covered_b threads notices first
    second independent)
