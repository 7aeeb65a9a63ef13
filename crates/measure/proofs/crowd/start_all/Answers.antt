use Rattle.std.proofs.Common.{arith}
use Rattle.std.proofs.lemmas.Grind.{common_steps}
use Rattle.measure.specs.Ready.{IsReady}
use Rattle.measure.proofs.crowd.start_all.Goals as goal
use Rattle.mq.proofs.Seats.{after-first}

pub loop-process-preserved-else-is_err : goal.loop-process-preserved-else-is_err
loop-process-preserved-else-is_err g c =
    let was = c.loop-process.invariant in
    record {
      left = grind (arith, common_steps);
      ready = after-first (IsReady c.args.mq.now) _ _ _ c.in-Some.ensures.steps.0 was.ready;
    }
