use Rattle.std.proofs.Common.{arith}
use Rattle.mq_state.proofs.InboxLines.{values-set, room-kept, room-made, line-room}
use Rattle.mq_state.proofs.notices.make_room.Goals as goal

pub returns-clause-same : goal.returns-clause-same
returns-clause-same c = λ k. let at = values-set (λ v. v) c.args.inboxes.now c.args.p
    c.reserve.new.self _ c.requires (rw c.owner_of.ensures at c.reserve.ensures.values) k in
    grind arith

pub returns-clause-room : goal.returns-clause-room
returns-clause-room c = rw c.owner_of.ensures (room-kept c.args.inboxes.now c.args.p
    c.reserve.new.self _ c.requires (rw c.owner_of.ensures at c.reserve.ensures.room))

pub returns-clause-ok : goal.returns-clause-ok
returns-clause-ok c = grind (arith, room-made)

pub returns-clause-err : goal.returns-clause-err
returns-clause-err c = grind (arith, line-room)
