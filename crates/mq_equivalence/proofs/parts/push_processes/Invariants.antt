use Rattle.std.proofs.Common.{◌≡◌, ◌-◌, ◌++◌}
use Rattle.mq_model.specs.Descriptors.{numbers_from}
use Rattle.mq_equivalence.specs.Key.{codes, process_code}
use Rattle.mq_equivalence.proofs.parts.push_processes.Given as goal

abbrev pub invariant-loop-p : goal.invariant-loop-p
invariant-loop-p l =
    l.key.items ++ codes (process_code l.width l.trail) (numbers_from l.p (l.count - l.p))
    ≡ l.initial.key.items ++ codes (process_code l.width l.trail) (numbers_from 0 l.count)
