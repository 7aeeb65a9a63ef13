use Rattle.std.proofs.Common.{◌≡◌, true, length, arith}
use Rattle.exploration.specs.Choices.{can_choose}
use Rattle.exploration.proofs.Opening.{left-node, open-step, opens-step}
use Rattle.exploration.proofs.search.add_step.Goals as goal

pub returns-clause-open : goal.returns-clause-open
returns-clause-open c = λ could steps opened leads shows.
    let step = c.args.step.now in
    let at : length c.args.nodes.now.items ≡ length c.args.path.now.items = omega arith in
    let can : can_choose step.parked.items step.choice ≡ true =
    (let e = rw c.deref.ensures.value at c.can_choose.ensures in cc) in
    let next = open-step could c.args.path.now.items step steps leads shows can in (
      rw (c.in_ok-push_node.ensures, c.in_ok-push_choice.ensures)
          (opens-step could c.args.path.now.items c.args.nodes.now.items c.in_ok-node.node step
          steps opened at leads shows c.in_ok-node.ensures.open),
      rw c.in_ok-push_choice.ensures next.0,
      rw c.in_ok-push_choice.ensures next.1,
    )

pub returns-clause-work : goal.returns-clause-work
returns-clause-work c = λ within.
    let at : length c.args.nodes.now.items ≡ length c.args.path.now.items = omega arith in
    rw (c.in_ok-push_node.ensures, c.in_ok-push_choice.ensures)
    (left-node c.args.limits.choices c.args.limits.steps c.args.nodes.now.items c.in_ok-node.node
    c.args.path.now.items c.args.step.now.choice
    at c.in_ok-node.ensures.few within)
