use Rattle.std.proofs.Common.{◌++◌, codes, map}
use Rattle.mq_model.specs.Descriptors.{held}
use Rattle.mq_model.specs.Notices.{notices}
use Rattle.mq_model.specs.Waits.{answered_by, open_wait}
use Rattle.journal_views.specs.State.{descriptor, held_numbers, in_json, label, listed, notice, process_head, wait}
use Rattle.journal_views.proofs.Lists.{behind}
use Rattle.journal_views.proofs.state.push_process.Goals as goal

pub returns : goal.returns
returns c =
    let past = c.args.journal.now.records in
    let form = c.args.form in
    let p = c.args.p in
    let a1 = process_head form p in
    let a2 = wait form (open_wait past p) (answered_by past p) in
    let a3 = label form (codes "descriptors") in
    let a4 = listed form (map (λ d. descriptor form d (held past p d)) (held_numbers past p)) in
    let a5 = label form (codes "notices") in
    let a6 = listed form (map (notice form) (notices past p)) in
    let a7 = in_json form (codes "}") in
    let r7 = a7 in
    let r6 = a6 ++ r7 in
    let r5 = a5 ++ r6 in
    let r4 = a4 ++ r5 in
    let r3 = a3 ++ r4 in
    let r2 = a2 ++ r3 in
    behind c.args.text.now.items a1 r2 _ _ c.in_ok-push_process_head.ensures
    (behind c.push_process_head.new.text.items a2 r3 _ _ c.in_ok-push_wait.ensures
    (behind c.push_wait.new.text.items a3 r4 _ _ c.in_ok-push_label.ensures
    (behind c.push_label.new.text.items a4 r5 _ _ c.in_ok-push_all_descriptors.ensures
    (behind c.push_all_descriptors.new.text.items a5 r6 _ _ c.in_ok-push_label-2.ensures
    (behind c.push_label-2.new.text.items a6 r7 _ _ c.in_ok-push_all_notices.ensures
    c.in_ok-push.ensures)))))
