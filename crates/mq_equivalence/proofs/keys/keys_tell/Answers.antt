use Rattle.mq_equivalence.proofs.SameKeys.{same-key}
use Rattle.mq_equivalence.proofs.keys.keys_tell.Goals as goal

pub returns : goal.returns
returns c = λ received x y legal_x legal_y e. same-key received x y legal_x legal_y e
