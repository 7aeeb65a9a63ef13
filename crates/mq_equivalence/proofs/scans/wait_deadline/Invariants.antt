use Rattle.std.proofs.Common.{◌≡◌}
use Rattle.mq_model.specs.Record.{first}
use Rattle.mq_model.specs.Waits.{wait_deadline}
use Rattle.mq_equivalence.proofs.scans.wait_deadline.Given as goal

abbrev pub invariant-loop-i : goal.invariant-loop-i
invariant-loop-i l = wait_deadline (first l.k l.journal.records) l.p ≡
    wait_deadline (first l.i l.journal.records) l.p
