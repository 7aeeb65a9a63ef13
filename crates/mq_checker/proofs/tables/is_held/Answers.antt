use Rattle.std.proofs.Common.{sym, ◌∙◌}
use Rattle.mq_model.specs.Record.{first}
use Rattle.mq_model.proofs.Alive.{is_held-table}
use Rattle.mq_checker.proofs.tables.is_held.Goals as goal

pub returns : goal.returns
returns c = c.is_held.ensures ∙ sym (is_held-table (first c.args.k c.args.journal.now.records)
    c.args.tables.now.owners c.requires.owners c.args.q)
