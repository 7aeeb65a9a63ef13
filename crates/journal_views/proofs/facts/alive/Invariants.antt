use Rattle.std.proofs.Common.{◌≡◌, ◌||◌, reverse}
use Rattle.std.specs.List.{filter}
use Rattle.mq_model.specs.Record.{first}
use Rattle.mq_model.specs.Descriptors.{created, is_held, is_named}
use Rattle.journal_views.proofs.facts.alive.Given as goal

abbrev pub invariant-loop-i : goal.invariant-loop-i
invariant-loop-i l = l.queues.items ≡
    reverse (filter (λ q. is_named l.journal.records q || is_held l.journal.records q)
    (created (first l.i l.journal.records)))
