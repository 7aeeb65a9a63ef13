use Rattle.measure.proofs.New.{new-ready}
use Rattle.measure.proofs.crowd.crowd.Goals as goal

pub in_threads-requires-clause-ready : goal.in_threads-requires-clause-ready
in_threads-requires-clause-ready g c κs within = new-ready c.in_ok-mq.mq c.args.count
    c.in_ok-mq.processes.items c.in_ok-mq.ensures.processes
