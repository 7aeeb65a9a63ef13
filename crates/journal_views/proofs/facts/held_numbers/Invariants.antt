use Rattle.std.proofs.Common.{◌≡◌, ◌++◌, ◌-◌, is_some}
use Rattle.std.specs.List.{filter}
use Rattle.mq_model.specs.Descriptors.{held, numbers_from}
use Rattle.journal_views.specs.State.{held_numbers}
use Rattle.journal_views.proofs.facts.held_numbers.Given as goal

abbrev pub invariant-loop-d : goal.invariant-loop-d
invariant-loop-d l =
    l.found.items ++ filter (λ d. is_some (held l.journal.records l.p d))
    (numbers_from l.d (16 - l.d)) ≡ held_numbers l.journal.records l.p
