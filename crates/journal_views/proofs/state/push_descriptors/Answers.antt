use Rattle.std.proofs.Common.{◌++◌, ◌∙◌, ap, arith}
use Rattle.mq_model.specs.Descriptors.{held}
use Rattle.journal_views.specs.State.{between, descriptor}
use Rattle.journal_views.proofs.Lists.{list-more}
use Rattle.journal_views.proofs.state.push_descriptors.Goals as goal

pub loop-d-preserved : goal.loop-d-preserved
loop-d-preserved c = (
  omega (arith, c.loop-d.invariant.0),
  list-more c.args.form (λ d. descriptor c.args.form d (held c.args.journal.now.records c.args.p d))
      _ c.args.text.now.items c.loop-d.text.items _ _ c.loop-d.d-index (omega arith)
      c.loop-d.invariant.1
      (c.in_ok-push_between.ensures ∙ ap (λ n. c.loop-d.text.items ++ between c.args.form n)
      c.loop-d.invariant.0) c.in_ok-push_descriptor.ensures,
)
