use Rattle.std.proofs.Common.{◌≤◌, ◌<◌, ℕ, List, length, take, take_all, subst, arith}
use Rattle.std.specs.List.{AllZip}
use Rattle.std.proofs.lemmas.List.Elements.{all_zip_more}
use Rattle.mq_state.specs.InboxShown.{InboxShown}
use Rattle.mq_state.proofs.Copies.{IsCopy, copies-count, copies-notices, copies-room}
use Rattle.mq_state.proofs.tables.copies.copy_inboxes.Goals as goal

pub loop-inbox-preserved : goal.loop-inbox-preserved
loop-inbox-preserved c =
    let inboxes = c.args.inboxes.now in
    let index = c.loop-inbox.inbox-index in
    let lt : index < length inboxes = omega arith in
    rw c.in_ok-push.ensures.items
    (all_zip_more IsCopy inboxes c.loop-inbox.copies.items index c.inbox-item.result
    c.in_ok-copy.field-0 lt c.inbox-item.is c.loop-inbox.invariant
    (record { values = c.in_ok-copy.ensures.values; room = c.in_ok-copy.ensures.room }))

-- all were copied
whole : (inboxes copies : List InboxShown) (index : ℕ) → length inboxes ≤ index →
    AllZip IsCopy (take index inboxes) copies → AllZip IsCopy inboxes copies
whole inboxes copies index end are = subst (λ (xs : List InboxShown). AllZip IsCopy xs copies)
    (take_all index inboxes end) are

pub returns-clause-count : goal.returns-clause-count
returns-clause-count c = copies-count c.args.inboxes.now c.loop-inbox.copies.items
    (whole _ _ c.loop-inbox.inbox-index (omega arith) c.loop-inbox.invariant)

pub returns-clause-notices : goal.returns-clause-notices
returns-clause-notices c = copies-notices c.args.inboxes.now c.loop-inbox.copies.items
    (whole _ _ c.loop-inbox.inbox-index (omega arith) c.loop-inbox.invariant)

pub returns-clause-room : goal.returns-clause-room
returns-clause-room c = copies-room c.args.inboxes.now c.loop-inbox.copies.items
    (whole _ _ c.loop-inbox.inbox-index (omega arith) c.loop-inbox.invariant)
