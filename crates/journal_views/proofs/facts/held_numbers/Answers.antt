use Rattle.std.proofs.Common.{arith, is_some}
use Rattle.mq_model.specs.Descriptors.{held}
use Rattle.journal_views.proofs.Told.{filter-done, filter-more}
use Rattle.journal_views.proofs.facts.held_numbers.Goals as goal

pub loop-d-preserved : goal.loop-d-preserved
loop-d-preserved c =
    filter-more (λ d. is_some (held c.args.journal.now.records c.args.p d)) c.loop-d.d 16 _ _ _ _
    (omega arith) c.loop-d.invariant c.holds-is_held.ensures c.in_ok-add_if.ensures

pub returns : goal.returns
returns c = filter-done (λ d. is_some (held c.args.journal.now.records c.args.p d)) c.loop-d.d 16 _
    _ c.loop-d.invariant (omega arith)
