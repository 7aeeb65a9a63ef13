use Rattle.std.proofs.Common.{sym, ◌∙◌}
use Rattle.mq_model.proofs.Prefixes.{named_is}
use Rattle.mq_checker.proofs.scan_names.is_named.Goals as goal

pub returns-in-Some : goal.returns-in-Some
returns-in-Some c = named_is c.args.journal.now.records c.args.k c.args.q _ _ c.record.ensures
    c.requires.place c.requires.bound (sym c.in-Some.is ∙ c.bound_queue.ensures)

pub returns-in-None : goal.returns-in-None
returns-in-None c = named_is c.args.journal.now.records c.args.k c.args.q _ _ c.record.ensures
    c.requires.place c.requires.bound (sym c.in-None.is ∙ c.bound_queue.ensures)
