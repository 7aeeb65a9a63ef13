use Rattle.std.proofs.Common.{◌∙◌, refl, sym, ap}
use Rattle.mq_state.specs.Queues.{renewed}
use Rattle.mq_state.proofs.QueueLines.{queue_in-Some, changed-at, changed-same}
use Rattle.mq_state.proofs.queues.renew.Goals as goal

pub note-requires : goal.note-requires
note-requires c = c.requires.allows _ (queue_in-Some c.args.queues.now c.args.q c.args.hint
    c.index-queues-hint.result (c.is_row.ensures c.if-is_row.true))

pub returns-in-Rests : goal.returns-in-Rests
returns-in-Rests c = changed-same (renewed c.args.line) c.args.queues.now c.args.q
    (λ x. rw c.in-Rests.is refl)

pub returns-then-is_row : goal.returns-then-is_row
returns-then-is_row c = changed-at _ c.args.queues.now c.args.q c.args.hint
    c.index-queues-hint.result c.note.new.self (c.is_row.ensures c.if-is_row.true)
    c.index-queues-hint.is (c.note.ensures ∙ ap (renewed c.args.line) (sym c.index-queues-hint.is))
