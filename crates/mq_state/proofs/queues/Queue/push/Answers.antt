use Rattle.std.proofs.Common.{subst}
use Rattle.std.specs.List.{Contains}
use Rattle.mq_state.specs.QueueShown.{QueueShown}
use Rattle.mq_state.proofs.queues.Queue.push.Goals as goal

pub push-requires-clause-newest : goal.push-requires-clause-newest
push-requires-clause-newest c = λ m there. c.requires.newest m
    (subst (λ (x : QueueShown). Contains x.slots m) c.self.view_is there)
