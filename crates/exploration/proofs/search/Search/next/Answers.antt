use Rattle.std.proofs.Common.{◌≤◌, length, arith, ap}
use Rattle.exploration.proofs.Opening.{left-last, opens-last}
use Rattle.exploration.proofs.search.Search.next.Goals as goal

pub returns-in-Some-pick-clause-possible : goal.returns-in-Some-pick-clause-possible
returns-in-Some-pick-clause-possible c = λ could opened.
    let parts = opens-last could c.loop-node.self.path.items c.loop-node.self.nodes.items
    c.pop.new.self.items c.in-Some.node
    c.in-Some.ensures.items (c.loop-node.invariant.open_nodes could opened) in
    c.in_ok-go_on.ensures.possible could parts.0 parts.1

pub returns-in-Some-pick-clause-work : goal.returns-in-Some-pick-clause-work
returns-in-Some-pick-clause-work c = λ within.
    let last = left-last c.args.self.now.limits.choices c.args.self.now.limits.steps
    c.loop-node.self.nodes.items c.pop.new.self.items c.in-Some.node c.in-Some.ensures.items in
    let fits : length c.pop.new.self.items ≤ length c.loop-node.self.path.items =
    omega (
      arith,
      last.0,
      within,
      c.loop-node.invariant.fewer,
      ap length c.loop-node.invariant.path,
    ) in
    let first = rw c.loop-node.invariant.limits at (c.in_ok-go_on.ensures.work fits) in
    omega (arith, first, last.1, c.loop-node.invariant.left)

pub loop-node-preserved : goal.loop-node-preserved
loop-node-preserved c =
    let last = left-last c.args.self.now.limits.choices c.args.self.now.limits.steps
    c.loop-node.self.nodes.items c.pop.new.self.items c.in-Some.node c.in-Some.ensures.items in
    record {
      limits = c.loop-node.invariant.limits;
      path = c.loop-node.invariant.path;
      fewer = omega (arith, last.0, c.loop-node.invariant.fewer);
      open_nodes = λ could opened.
          (opens-last could c.loop-node.self.path.items c.loop-node.self.nodes.items
          c.pop.new.self.items c.in-Some.node
          c.in-Some.ensures.items (c.loop-node.invariant.open_nodes could opened)).0;
      left = omega (arith, last.1, c.loop-node.invariant.left);
    }
