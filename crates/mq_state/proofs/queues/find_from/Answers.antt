use Rattle.std.proofs.Common.{◌∙◌, sym, ap, Some}
use Rattle.mq_state.proofs.QueueLines.{queue_in-Some, queue_in-None}
use Rattle.mq_state.proofs.queues.find_from.Goals as goal

pub returns-in-None : goal.returns-in-None
returns-in-None c = sym (queue_in-None c.args.queues.now c.args.q (sym c.index_from.ensures ∙
    c.in-None.is))

pub returns-in-Some : goal.returns-in-Some
returns-in-Some c = ap Some c.index-queues-i.is ∙
    sym (queue_in-Some c.args.queues.now c.args.q c.in-Some.i c.index-queues-i.result
    (sym c.in-Some.ensures))
