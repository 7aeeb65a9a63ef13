use Rattle.std.proofs.Common.{sym, ◌∙◌}
use Rattle.mq_checker.proofs.Entries.{entry-here, entry-there}
use Rattle.mq_checker.proofs.scan_names.entry_at.Goals as goal

pub returns : goal.returns
returns c = entry-here c.args.journal.now.records c.args.place c.in-Some.entry (sym c.in-Some.is ∙
    c.entry.ensures)

pub unreachable-requires : goal.unreachable-requires
unreachable-requires c = entry-there c.args.journal.now.records c.args.place c.requires
    (sym c.in-None.is ∙ c.entry.ensures)
