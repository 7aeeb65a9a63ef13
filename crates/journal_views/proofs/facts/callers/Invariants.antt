use Rattle.std.proofs.Common.{◌≡◌, ◌==◌, ◌+◌, ◌++◌, ◌-◌}
use Rattle.std.specs.List.{filter, list_any}
use Rattle.mq_model.specs.Descriptors.{numbers_from}
use Rattle.journal_views.proofs.facts.callers.Given as goal

abbrev pub invariant-loop-p : goal.invariant-loop-p
invariant-loop-p l = l.found.items ++ filter (λ p. list_any (λ r. r.entry.process == p)
    l.journal.records) (numbers_from l.p (l.last + 1 - l.p)) ≡
    filter (λ p. list_any (λ r. r.entry.process == p) l.journal.records)
    (numbers_from 1 (l.last + 1 - 1))
