use Rattle.std.proofs.Common.{◌++◌, ◌∙◌, ap, arith}
use Rattle.journal_views.specs.State.{between, notice}
use Rattle.journal_views.proofs.Lists.{list-more}
use Rattle.journal_views.proofs.state.push_notices.Goals as goal

pub loop-value-preserved : goal.loop-value-preserved
loop-value-preserved c = (
  omega (arith, c.loop-value.invariant.0),
  list-more c.args.form (notice c.args.form) _ c.args.text.now.items c.loop-value.text.items _ _
      c.loop-value.value-index (omega arith) c.loop-value.invariant.1
      (c.in_ok-push_between.ensures ∙ ap (λ n. c.loop-value.text.items ++ between c.args.form n)
      c.loop-value.invariant.0) c.in_ok-push_notice.ensures,
)
