use Rattle.std.proofs.Common.{◌≡◌}
use Rattle.mq_model.specs.Record.{first}
use Rattle.mq_model.specs.Names.{bound_queue}
use Rattle.mq_checker.proofs.scan_names.bound_queue.Given as goal

abbrev pub invariant-loop-i : goal.invariant-loop-i
invariant-loop-i l = bound_queue (first l.k l.journal.records) l.name ≡
    bound_queue (first l.i l.journal.records) l.name
