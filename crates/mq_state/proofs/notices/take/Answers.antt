use Rattle.std.proofs.Common.{drop}
use Rattle.mq_state.proofs.InboxLines.{values-set, room-kept}
use Rattle.mq_state.proofs.notices.take.Goals as goal

pub returns-clause-notices : goal.returns-clause-notices
returns-clause-notices c = rw c.owner_of.ensures (values-set (λ v. drop 1 v) c.args.inboxes.now
    c.args.p c.pop.new.self _ c.requires (rw c.owner_of.ensures at c.pop.ensures.values))

pub returns-clause-room : goal.returns-clause-room
returns-clause-room c = rw c.owner_of.ensures (room-kept c.args.inboxes.now c.args.p c.pop.new.self
    _ c.requires (rw c.owner_of.ensures at c.pop.ensures.room))
