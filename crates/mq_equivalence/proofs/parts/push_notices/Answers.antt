use Rattle.std.proofs.Common.{◌++◌, ◌∙◌, ◌<◌, ap, arith, length}
use Rattle.std.specs.Option.{option_to_list}
use Rattle.std.proofs.lemmas.Option.{slice_get-get_or}
use Rattle.mq_model.specs.Notices.{notices}
use Rattle.mq_equivalence.specs.Key.{number}
use Rattle.mq_equivalence.proofs.Appends.{code-more, codes-drop, items-done}
use Rattle.mq_equivalence.proofs.parts.push_notices.Goals as goal

pub loop-index-preserved : goal.loop-index-preserved
loop-index-preserved c =
    let values = notices c.args.trail.now c.args.p in
    let lt : c.loop-index.index < length values = omega (arith, c.notice_count-count.ensures) in
    let some = c.notice.ensures ∙ slice_get-get_or values c.loop-index.index 0 lt in
    let more = c.in_ok-push_some.ensures ∙ ap (λ o. c.loop-index.key.items ++ option_to_list o) some
    in
    code-more _ _ _ _ _ _ c.loop-index.invariant (codes-drop number values c.loop-index.index lt)
    more

pub returns : goal.returns
returns c =
    let values = notices c.args.trail.now c.args.p in
    items-done number c.loop-index.key.items _ c.args.key.now.items values c.loop-index.index
    c.notice_count-count.result c.loop-index.invariant
    (omega (arith, c.notice_count-count.ensures)) c.in_ok-push_number.ensures
    c.notice_count-count.ensures
