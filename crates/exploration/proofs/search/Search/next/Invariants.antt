use Rattle.std.proofs.Common.{◌≡◌, ◌≤◌, Bool, List, length, vec_len}
use Rattle.exploration.specs.Shown.{AreOpen, runs_left}
use Rattle.exploration.specs.declared.operation.Choice.{Choice}
use Rattle.exploration.proofs.search.Search.next.Given as goal

-- the nodes that are left are open as before, and leave no more runs
abbrev pub invariant-loop-node : goal.invariant-loop-node
invariant-loop-node l = record {
  limits : l.self.limits ≡ l.initial.self.limits;
  path : l.self.path.items ≡ l.initial.self.path.items;
  fewer : length l.self.nodes.items ≤ length l.initial.self.nodes.items;
  open_nodes : (could : List Choice → Choice → Bool) →
      AreOpen could l.initial.self.path.items 0 l.initial.self.nodes.items →
      AreOpen could l.self.path.items 0 l.self.nodes.items;
  left : runs_left l.initial.self.limits.choices l.initial.self.limits.steps 0 l.self.nodes.items
      ≤ runs_left l.initial.self.limits.choices l.initial.self.limits.steps 0
      l.initial.self.nodes.items;
}

abbrev pub decreases-loop-node : goal.decreases-loop-node
decreases-loop-node l = vec_len l.self.nodes
