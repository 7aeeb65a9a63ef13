use Rattle.std.proofs.Common.{arith}
use Rattle.mq_equivalence.proofs.Existing.{keyed-exist}
use Rattle.mq_equivalence.proofs.parts.push_queues.Goals as goal

pub push_queue-requires : goal.push_queue-requires
push_queue-requires c = keyed-exist c.args.trail.now c.args.queues.now c.loop-i.i _
    c.requires (omega arith)
