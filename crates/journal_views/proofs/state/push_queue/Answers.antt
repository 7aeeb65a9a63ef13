use Rattle.std.proofs.Common.{◌++◌, codes, map, reverse}
use Rattle.mq_model.specs.Names.{attributes, name_of}
use Rattle.mq_model.specs.Descriptors.{is_named}
use Rattle.mq_model.specs.Messages.{present, priority, waiting_receives, waiting_sends}
use Rattle.mq_model.specs.Notices.{registered}
use Rattle.mq_equivalence.specs.Views.{lined}
use Rattle.journal_views.specs.State.{at, in_json, label, listed, message, queue_head, receiver, registration, sender}
use Rattle.journal_views.proofs.Lists.{behind}
use Rattle.journal_views.proofs.state.push_queue.Goals as goal

pub returns : goal.returns
returns c =
    let past = c.args.journal.now.records in
    let form = c.args.form in
    let q = c.args.q in
    let a1 = queue_head form q (name_of past q) (is_named past q) (attributes past q) in
    let a2 = label form (codes "messages") in
    let a3 = listed form (map (at (message form) past) (lined (priority past) (present past q))) in
    let a4 = label form (codes "senders") in
    let a5 = listed form (map (at (sender form) past) (reverse (waiting_sends past q))) in
    let a6 = label form (codes "receivers") in
    let a7 = listed form (map (at (receiver form) past) (reverse (waiting_receives past q))) in
    let a8 = label form (codes "registration") in
    let a9 = registration form (registered past q) in
    let a10 = in_json form (codes "}") in
    let r10 = a10 in
    let r9 = a9 ++ r10 in
    let r8 = a8 ++ r9 in
    let r7 = a7 ++ r8 in
    let r6 = a6 ++ r7 in
    let r5 = a5 ++ r6 in
    let r4 = a4 ++ r5 in
    let r3 = a3 ++ r4 in
    let r2 = a2 ++ r3 in
    behind c.args.text.now.items a1 r2 _ _ c.in_ok-push_head.ensures
    (behind c.push_head.new.text.items a2 r3 _ _ c.in_ok-push_label.ensures
    (behind c.push_label.new.text.items a3 r4 _ _ c.in_ok-push_kind.ensures
    (behind c.push_kind.new.text.items a4 r5 _ _ c.in_ok-push_label-2.ensures
    (behind c.push_label-2.new.text.items a5 r6 _ _ c.in_ok-push_kind-2.ensures
    (behind c.push_kind-2.new.text.items a6 r7 _ _ c.in_ok-push_label-3.ensures
    (behind c.push_label-3.new.text.items a7 r8 _ _ c.in_ok-push_kind-3.ensures
    (behind c.push_kind-3.new.text.items a8 r9 _ _ c.in_ok-push_label-4.ensures
    (behind c.push_label-4.new.text.items a9 r10 _ _ c.in_ok-push_registration.ensures
    (c.in_ok-push.ensures)))))))))
