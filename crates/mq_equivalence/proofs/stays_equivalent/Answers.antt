use Rattle.mq_equivalence.proofs.Runs.{steps-equivalent}
use Rattle.mq_equivalence.proofs.stays_equivalent.Goals as goal

pub returns : goal.returns
returns c = λ to x y p call given equivalent. steps-equivalent to x y equivalent p call given
