use Rattle.std.proofs.Common.{◌≡◌, ◌==◌}
use Rattle.std.specs.List.{list_any}
use Rattle.mq_model.specs.Record.{first}
use Rattle.journal_views.proofs.facts.has_entry.Given as goal

abbrev pub invariant-loop-i : goal.invariant-loop-i
invariant-loop-i l = l.found ≡ list_any (λ r. r.entry.process == l.p) (first l.i l.journal.records)
