use Rattle.std.proofs.Common.{◌≡◌}
use Rattle.mq_model.specs.Record.{first}
use Rattle.mq_model.specs.Notices.{values_notified}
use Rattle.journal_views.proofs.facts.values_notified.Given as goal

abbrev pub invariant-loop-i : goal.invariant-loop-i
invariant-loop-i l = l.values.items ≡ values_notified (first l.i l.journal.records) l.p
