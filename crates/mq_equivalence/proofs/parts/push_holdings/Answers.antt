use Rattle.std.proofs.Common.{ℕ, ◌++◌, ◌∙◌, ap, arith, sym}
use Rattle.mq_model.specs.Descriptors.{held, numbers_from}
use Rattle.mq_equivalence.specs.Key.{description_code, optional}
use Rattle.mq_equivalence.proofs.Appends.{code-more, codes-numbers, listed-map, numbered-done}
use Rattle.mq_equivalence.proofs.parts.push_holdings.Goals as goal

pub loop-d-preserved : goal.loop-d-preserved
loop-d-preserved c =
    let code = optional (description_code c.args.queues.now) in
    let more = c.in_ok-push_held.ensures ∙ ap (λ h. c.loop-d.key.items ++ code h) c.held.ensures in
    code-more _ _ _ _ _ _ c.loop-d.invariant
    (codes-numbers (λ d. code (held c.args.trail.now c.args.p d)) c.loop-d.d c.args.width
    (omega arith)) more

pub returns : goal.returns
returns c =
    let one = optional (description_code c.args.queues.now) in
    let code = λ (d : ℕ). one (held c.args.trail.now c.args.p d) in
    numbered-done code c.loop-d.key.items _ c.args.key.now.items c.args.width c.loop-d.d
    c.loop-d.invariant c.loop-d-test.false c.in_ok-push_number.ensures
    ∙ ap (λ ns. c.args.key.now.items ++ ns) (sym (listed-map one (held c.args.trail.now c.args.p)
    (numbers_from 0 c.args.width)))
