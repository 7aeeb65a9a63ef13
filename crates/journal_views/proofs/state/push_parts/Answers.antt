use Rattle.std.proofs.Common.{◌++◌, ◌∙◌, ap, arith}
use Rattle.journal_views.specs.Parts.{part}
use Rattle.journal_views.specs.State.{between, at}
use Rattle.journal_views.proofs.Lists.{list-more}
use Rattle.journal_views.proofs.state.push_parts.Goals as goal

pub loop-place-preserved : goal.loop-place-preserved
loop-place-preserved c = (
  omega (arith, c.loop-place.invariant.0),
  list-more c.args.form (at (part c.args.kind c.args.form) c.args.journal.now.records) _
      c.args.text.now.items c.loop-place.text.items _ _ c.loop-place.place-index (omega arith)
      c.loop-place.invariant.1
      (c.in_ok-push_between.ensures ∙ ap (λ n. c.loop-place.text.items ++ between c.args.form n)
      c.loop-place.invariant.0) c.in_ok-push_part.ensures,
)
