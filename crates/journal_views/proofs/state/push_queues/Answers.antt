use Rattle.std.proofs.Common.{◌++◌, ◌∙◌, ap, arith}
use Rattle.journal_views.specs.State.{between, queue}
use Rattle.journal_views.proofs.Lists.{list-more}
use Rattle.journal_views.proofs.state.push_queues.Goals as goal

pub loop-q-preserved : goal.loop-q-preserved
loop-q-preserved c = (
  omega (arith, c.loop-q.invariant.0),
  list-more c.args.form (queue c.args.form c.args.journal.now.records) _ c.args.text.now.items
      c.loop-q.text.items _ _ c.loop-q.q-index (omega arith) c.loop-q.invariant.1
      (c.in_ok-push_between.ensures ∙ ap (λ n. c.loop-q.text.items ++ between c.args.form n)
      c.loop-q.invariant.0) c.in_ok-push_queue.ensures,
)
