use Rattle.std.proofs.Common.{◌≡◌, ◌+◌, ◌-◌, ◌≤◌, suc, ◌∷◌, drop, length, refl, arith, drop-cons, add-one}
use Rattle.exploration.proofs.Opening.{left-end}
use Rattle.exploration.proofs.search.add_steps.Goals as goal

pub loop-step-preserved : goal.loop-step-preserved
loop-step-preserved c =
    let i = c.loop-step.step-index in
    let steps = c.args.steps.now in
    let step = c.step-item.result in
    let here : drop i steps ≡ step ∷ drop (i + 1) steps =
    rw (drop-cons steps i step c.loop-step-test.true, ← c.step-item.is, add-one i) refl in
    record {
      count = omega (arith, c.in_ok-add_step.ensures.length, c.loop-step.invariant.count);
      within = omega arith;
      open_nodes = λ could opened leads shows.
          let before = c.loop-step.invariant.open_nodes could opened leads shows in
          c.in_ok-add_step.ensures.open could (drop (i + 1) steps) before.0 before.1
          (rw here at before.2);
      left =
          let fits : length c.loop-step.path.items ≤ c.args.limits.steps = omega arith in
          omega (arith, c.in_ok-add_step.ensures.work fits, c.loop-step.invariant.left);
    }

pub returns-clause-work : goal.returns-clause-work
returns-clause-work c =
    left-end c.args.limits.choices c.args.limits.steps
    (suc c.args.limits.steps - length c.loop-step.path.items) _ _ c.loop-step.invariant.left
