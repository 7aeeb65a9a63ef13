use Rattle.std.proofs.Common.{◌≡◌}
use Rattle.mq_model.specs.Record.{first}
use Rattle.mq_model.specs.Notices.{registered}
use Rattle.journal_views.proofs.facts.registered.Given as goal

abbrev pub invariant-loop-i : goal.invariant-loop-i
invariant-loop-i l = l.registration ≡ registered (first l.i l.journal.records) l.q
