use Rattle.std.proofs.Common.{◌≡◌, ◌<◌, ◌==◌, false, length, get_or, sym, arith, ne_eqb}
use Rattle.mq_state.specs.QueueShown.{QueueShown}
use Rattle.mq_state.proofs.Rising.{up-to, here-alone, not-there}
use Rattle.mq_state.proofs.queues.index_of.Goals.{else-low-queues-via-then-low-queues+else-place-q-2, else-low-queues-via-else-low-queues}
use Rattle.mq_state.proofs.queues.index_of.Goals as goal

pub loop-low-preserved-then-place-q : goal.loop-low-preserved-then-place-q
loop-low-preserved-then-place-q c = grind (arith, up-to)

pub loop-low-preserved : goal.loop-low-preserved
loop-low-preserved c = grind (arith, up-to)

pub returns-then-place-q-2 : goal.returns-then-place-q-2
returns-then-place-q-2 c = sym (here-alone c.args.queues.now c.requires c.args.q c.loop-low.low
    c.index-queues-low.result c.if-low-queues.true (grind arith))

pub returns-else-low-queues : goal.returns-else-low-queues
returns-else-low-queues c = sym (not-there c.args.queues.now c.requires c.args.q c.loop-low.low
    c.loop-low.invariant.below (λ k d le within. c.loop-low.invariant.rest k d (omega arith) within)
    other)
  where
    other : c.loop-low.low < length c.args.queues.now →
        (d : QueueShown) × (((get_or c.args.queues.now c.loop-low.low d).place == c.args.q) ≡ false)
    other lt = elim c.else-low-queues.branch [
      | else-low-queues-via-then-low-queues+else-place-q-2 w ↦ (
        w.index-queues-low.result,
        ne_eqb _ _ (λ same. w.if-place-q-2.false (grind arith)),
      )
      | else-low-queues-via-else-low-queues w ↦ absurd (omega (arith, w.if-low-queues.false))
    ]
