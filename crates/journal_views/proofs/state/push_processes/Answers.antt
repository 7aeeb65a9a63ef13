use Rattle.std.proofs.Common.{◌++◌, ◌∙◌, ap, arith}
use Rattle.journal_views.specs.State.{between, process}
use Rattle.journal_views.proofs.Lists.{list-more}
use Rattle.journal_views.proofs.state.push_processes.Goals as goal

pub loop-p-preserved : goal.loop-p-preserved
loop-p-preserved c = (
  omega (arith, c.loop-p.invariant.0),
  list-more c.args.form (process c.args.form c.args.journal.now.records) _ c.args.text.now.items
      c.loop-p.text.items _ _ c.loop-p.p-index (omega arith) c.loop-p.invariant.1
      (c.in_ok-push_between.ensures ∙ ap (λ n. c.loop-p.text.items ++ between c.args.form n)
      c.loop-p.invariant.0) c.in_ok-push_process.ensures,
)
