use Rattle.std.proofs.Common.{◌≡◌}
use Rattle.mq_model.specs.Record.{first}
use Rattle.mq_model.specs.Record.{record_at}
use Rattle.mq_model.specs.Notices.{value_given}
use Rattle.mq_checker.proofs.scan_notices.value_given.Given as goal

abbrev pub invariant-loop-i : goal.invariant-loop-i
invariant-loop-i l = l.value ≡ value_given l.p (record_at (first l.i l.journal.records) l.place)
