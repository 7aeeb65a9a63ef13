use Rattle.std.proofs.Common.{arith, length-append}
use Rattle.std.proofs.lemmas.List.Elements.{All-push}
use Rattle.mq_state.specs.Pool.{IsSpare}
use Rattle.mq_state.proofs.queues.spare_orders.Goals as goal

pub loop-preserved : goal.loop-preserved
loop-preserved c =
    let spare = All-push IsSpare c.loop.spares.items c.in_ok-new.field-0 c.loop.invariant.0
    (c.in_ok-new.ensures.empty, grind arith) in
    grind (arith, length-append)
