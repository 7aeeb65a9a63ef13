use Rattle.std.proofs.Common.{◌∙◌, sym, ap}
use Rattle.mq_state.specs.Queues.{renewed}
use Rattle.mq_state.proofs.QueueLines.{queue_in-Some, changed-at, changed-None, queue_in-None}
use Rattle.mq_state.proofs.queues.renew_apart.Goals as goal

pub note-requires : goal.note-requires
note-requires c = c.requires.allows _ (queue_in-Some c.args.queues.now c.args.q c.in-Some.i
    c.index-queues-i.result (sym c.in-Some.ensures))

pub returns-in-Some : goal.returns-in-Some
returns-in-Some c = changed-at _ c.args.queues.now c.args.q c.in-Some.i c.index-queues-i.result
    c.note.new.self (sym c.in-Some.ensures) c.index-queues-i.is (c.note.ensures ∙
    ap (renewed c.args.line) (sym c.index-queues-i.is))

pub returns-in_default : goal.returns-in_default
returns-in_default c = sym (changed-None _ c.args.queues.now c.args.q
    (queue_in-None c.args.queues.now c.args.q (sym c.index_of-found.ensures ∙ c.in_default.is)))
