use Rattle.std.proofs.Common.{arith}
use Rattle.mq_state.proofs.Rising.{here-alone}
use Rattle.mq_state.proofs.queues.is_row.Goals as goal

pub returns-then-index-queues : goal.returns-then-index-queues
returns-then-index-queues c at = here-alone c.args.queues.now c.requires c.args.q c.args.index
    c.index-queues-index.result c.if-index-queues.true (grind arith)
