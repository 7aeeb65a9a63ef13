use Rattle.std.proofs.Common.{◌==◌, ◌+◌, ◌∙◌, arith}
use Rattle.std.specs.List.{list_any}
use Rattle.journal_views.specs.State.{callers}
use Rattle.journal_views.proofs.Told.{filter-done, filter-more, filter-upto}
use Rattle.journal_views.proofs.facts.callers.Goals as goal

pub loop-p-preserved : goal.loop-p-preserved
loop-p-preserved c =
    filter-more (λ p. list_any (λ r. r.entry.process == p) c.args.journal.now.records) c.loop-p.p
    (c.last_caller-last.result + 1) _ _ _ _ (omega arith) c.loop-p.invariant
    c.has_entry-calls.ensures c.in_ok-add_if.ensures

pub returns : goal.returns
unfolding callers
returns c =
    filter-done (λ p. list_any (λ r. r.entry.process == p) c.args.journal.now.records) c.loop-p.p
    (c.last_caller-last.result + 1) _ _ c.loop-p.invariant (omega arith)
    ∙ filter-upto (λ p. list_any (λ r. r.entry.process == p) c.args.journal.now.records)
    c.last_caller-last.result 2048 c.last_caller-last.ensures.few
    c.last_caller-last.ensures.none
