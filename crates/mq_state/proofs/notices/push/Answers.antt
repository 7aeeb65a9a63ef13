use Rattle.std.proofs.Common.{◌++◌, ◌∷◌, [], arith}
use Rattle.mq_state.proofs.InboxLines.{values-set, line-room, room-inside, room-set}
use Rattle.mq_state.proofs.notices.push.Goals as goal

pub bounds-inboxes-owner_of : goal.bounds-inboxes-owner_of
bounds-inboxes-owner_of c = rw c.owner_of.ensures
    (room-inside c.args.inboxes.now c.args.p c.requires)

pub push-requires : goal.push-requires
push-requires c =
    let here = line-room c.args.inboxes.now c.args.p c.index-inboxes-owner_of.result
    (room-inside c.args.inboxes.now c.args.p c.requires) in
    rw c.owner_of.ensures (omega (arith, here, c.requires))

pub returns-clause-notices : goal.returns-clause-notices
returns-clause-notices c = rw c.owner_of.ensures (values-set (λ v. v ++ c.args.value ∷ [])
    c.args.inboxes.now c.args.p c.push.new.self _ (room-inside c.args.inboxes.now c.args.p
    c.requires) (rw c.owner_of.ensures at c.push.ensures.values))

pub returns-clause-room : goal.returns-clause-room
returns-clause-room c =
    let less = rw c.owner_of.ensures at c.push.ensures.room in
    rw c.owner_of.ensures (room-set c.args.inboxes.now c.args.p c.push.new.self
    c.index-inboxes-owner_of.result 1 (room-inside c.args.inboxes.now c.args.p c.requires)
    (omega (arith, less)))
