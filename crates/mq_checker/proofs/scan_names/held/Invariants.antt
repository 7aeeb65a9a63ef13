use Rattle.std.proofs.Common.{◌≡◌}
use Rattle.mq_model.specs.Record.{first}
use Rattle.mq_model.specs.Descriptors.{held}
use Rattle.mq_checker.proofs.Flagged.{flagged}
use Rattle.mq_checker.proofs.scan_names.held.Given as goal

abbrev pub invariant-loop-i : goal.invariant-loop-i
invariant-loop-i l = held (first l.k l.journal.records) l.p l.d ≡
    flagged l.flag (held (first l.i l.journal.records) l.p l.d)
