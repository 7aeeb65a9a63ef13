use Rattle.std.proofs.Common.{arith, sym, ◌∙◌}
use Rattle.journal_views.proofs.Told.{value-mine, value-none, value-other}
use Rattle.journal_views.proofs.facts.value_notified.Goals as goal

pub returns-then-m-k : goal.returns-then-m-k
returns-then-m-k c = value-none c.args.journal.now.records c.args.k c.args.p c.in-Some.m
    c.args.place c.in-Some.is (omega arith) c.requires

pub returns-then-share : goal.returns-then-share
returns-then-share c =
    value-mine c.args.journal.now.records c.args.k c.args.p c.in-Some.m _ c.args.place _
    c.in-Some.is c.entry_at-entry.ensures (omega arith) c.requires (sym c.share.ensures ∙
    c.if-share.true) c.value_of_notify.ensures

pub returns-else-share : goal.returns-else-share
returns-else-share c =
    value-other c.args.journal.now.records c.args.k c.args.p c.in-Some.m _ c.args.place c.in-Some.is
    c.entry_at-entry.ensures (omega arith) c.requires (sym c.share.ensures ∙ c.if-share.false)
