use Rattle.std.proofs.Common.{◌≡◌, ◌-◌, ◌++◌}
use Rattle.mq_model.specs.Descriptors.{held, numbers_from}
use Rattle.mq_equivalence.specs.Key.{codes, description_code, optional}
use Rattle.mq_equivalence.proofs.parts.push_holdings.Given as goal

abbrev pub invariant-loop-d : goal.invariant-loop-d
invariant-loop-d l =
    l.key.items ++ codes (λ d. optional (description_code l.queues) (held l.trail l.p d))
    (numbers_from l.d (l.width - l.d))
    ≡ l.initial.key.items ++ codes (λ d. optional (description_code l.queues) (held l.trail l.p d))
    (numbers_from 0 l.width)
