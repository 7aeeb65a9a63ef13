use Rattle.std.proofs.Common.{arith}
use Rattle.mq_state.proofs.BestSlots.{popped}
use Rattle.mq_state.proofs.queues.Queue.pop.Goals as goal

pub returns : goal.returns
returns c = λ place at.
    let left = popped c.self.inside.slots.messages c.pop.new.self.messages c.pop.result place
    c.pop.ensures.none c.pop.ensures.best c.pop.ensures.others in
    grind (arith, c.self.view_is, c.pop.ensures.cap)
