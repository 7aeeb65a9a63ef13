use Rattle.mq_equivalence.proofs.Runs.{steps-agree}
use Rattle.mq_equivalence.proofs.steps_agree.Goals as goal

pub returns : goal.returns
returns c = λ received to x y p call given agree may. steps-agree to x y agree p call given may
