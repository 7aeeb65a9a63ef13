use Rattle.std.proofs.Common.{◌∙◌, sym, ap}
use Rattle.mq_state.specs.Queues.{with_waiting}
use Rattle.mq_state.proofs.QueueLines.{changed-at, changed-None, queue_in-None}
use Rattle.mq_state.proofs.queues.set_waiting.Goals as goal

pub returns-in-Some : goal.returns-in-Some
returns-in-Some c = changed-at _ c.args.queues.now c.args.q c.in-Some.i c.index-queues-i.result
    c.set_waiting.new.self (sym c.in-Some.ensures) c.index-queues-i.is (c.set_waiting.ensures ∙
    ap (with_waiting c.args.bits) (sym c.index-queues-i.is))

pub returns-in_default : goal.returns-in_default
returns-in_default c = sym (changed-None _ c.args.queues.now c.args.q
    (queue_in-None c.args.queues.now c.args.q (sym c.first_at.ensures ∙ c.in_default.is)))
