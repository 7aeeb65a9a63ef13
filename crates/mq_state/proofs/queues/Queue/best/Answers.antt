use Rattle.std.proofs.Common.{arith}
use Rattle.mq_state.proofs.BestSlots.{best-found}
use Rattle.mq_state.proofs.queues.Queue.best.Goals as goal

pub returns : goal.returns
returns c = let is = c.self.view_is in let best = best-found c.self.inside.slots.messages
    c.best.result c.best.ensures.none c.best.ensures.best in grind arith
