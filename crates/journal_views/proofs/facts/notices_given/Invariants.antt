use Rattle.std.proofs.Common.{◌≡◌, ◌≤◌}
use Rattle.mq_model.specs.Record.{first}
use Rattle.mq_model.specs.Notices.{notices_given}
use Rattle.journal_views.proofs.facts.notices_given.Given as goal

abbrev pub invariant-loop-i : goal.invariant-loop-i
invariant-loop-i l = (l.count ≡ notices_given (first l.i l.journal.records) l.p) × (l.count ≤ l.i)
