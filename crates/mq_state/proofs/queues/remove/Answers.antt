use Rattle.std.proofs.Common.{◌≡◌, ◌==◌, ◌∙◌, Some, List, sym, arith}
use Rattle.std.specs.List.{position}
use Rattle.mq_state.specs.QueueShown.{QueueShown}
use Rattle.mq_state.proofs.Pooling.{without-removed, without-none, pool-removed}
use Rattle.std.proofs.lemmas.List.Quantifiers.{position-Some}
use Rattle.mq_state.proofs.QueueLines.{queue_in-None}
use Rattle.mq_state.proofs.queues.remove.Goals as goal

pub loop-i-preserved : goal.loop-i-preserved
loop-i-preserved c =
    let queues : List QueueShown = c.loop-i.queues.items in
    let d : QueueShown = c.remove-queue.result in
    let at : position (λ (x : QueueShown). x.place == c.args.q) queues ≡ Some c.in-Some.i =
    grind arith in
    let here = position-Some (λ (x : QueueShown). x.place == c.args.q) queues c.in-Some.i d at in
    let left = without-removed queues c.args.q c.in-Some.i d here.0 here.1 in (
      grind arith,
      grind arith,
      c.remove-queue.ensures.capacity ∙ c.loop-i.invariant.2,
      λ m pool.
          rw (
            c.remove-queue.ensures.items,
            c.remove-queue.ensures.capacity,
            c.keep.ensures.capacity,
          )
          (pool-removed queues c.in-Some.i d c.loop-i.spares.items c.keep.new.spares.items
          c.into_slots.result here.0 (grind arith) (c.loop-i.invariant.3 m pool)
          (λ lt. c.keep.ensures.kept (grind arith))),
    )

pub returns-clause-items : goal.returns-clause-items
returns-clause-items c = sym (without-none c.loop-i.queues.items c.args.q
    (queue_in-None _ _ (grind arith))) ∙ c.loop-i.invariant.0
