use Rattle.std.proofs.Common.{sym, ◌∙◌}
use Rattle.mq_state.proofs.books.waiting_call.Goals as goal

pub returns-in-Some : goal.returns-in-Some
returns-in-Some c = c.waiting_call.ensures ∙ c.requires.tables.calls.at c.args.p c.in-Some.field-0
    (sym (c.requires.tables.mirror.waits.waits c.args.p) ∙ sym c.wait.ensures ∙ c.in-Some.is)
