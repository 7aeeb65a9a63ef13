use Rattle.std.proofs.Common.{arith, rules}
use Rattle.std.proofs.lemmas.Grind.{common_steps}
use Rattle.mq.specs.Calls.{IsRoomOf}
use Rattle.mq.proofs.Seats.{after-first}
use Rattle.mq.proofs.system.processes_of.Goals as goal

pub seats-preserved : goal.seats-preserved
seats-preserved g c = record {
  all = grind (arith, common_steps);
  left = search rules;
  made = grind (arith, common_steps);
  room = search rules;
  waits = after-first (λ s. IsRoomOf c.args.rooms.now (g.L.Lock.ticket s)) _ _ _
      c.in-Some.ensures.steps.0 c.seats.invariant.waits;
}
