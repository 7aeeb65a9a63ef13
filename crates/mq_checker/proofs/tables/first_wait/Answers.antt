use Rattle.std.proofs.Common.{sym, refl}
use Rattle.mq_model.specs.Record.{first}
use Rattle.mq_model.proofs.Pending.{least-pending, no-pending}
use Rattle.mq_checker.proofs.tables.first_wait.Goals as goal

pub returns-in-None : goal.returns-in-None
returns-in-None c = sym (no-pending (first c.args.k c.args.journal.now.records)
    c.args.tables.now.callers c.requires.mirror.callers c.requires.legal c.args.q c.args.kind
    (c.in-None.ensures.none refl))

pub returns-in-Some : goal.returns-in-Some
returns-in-Some c = sym (least-pending (first c.args.k c.args.journal.now.records)
    c.args.tables.now.callers c.requires.mirror.callers c.requires.legal c.args.q c.args.kind
    c.in-Some.field-0-0 c.in-Some.place c.in-Some.ensures.some)
