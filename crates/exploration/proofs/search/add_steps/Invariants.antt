use Rattle.std.proofs.Common.{◌≡◌, suc, ◌+◌, ◌-◌, ◌^◌, ◌≤◌, Bool, List, drop, length}
use Rattle.exploration.specs.Shown.{AreOpen, Possible, Shows, runs_left}
use Rattle.exploration.specs.declared.operation.Choice.{Choice}
use Rattle.exploration.proofs.search.add_steps.Given as goal

-- The choices of the path are possible, the steps that are left show which choices were before
-- them, and the nodes so far leave this many runs.
abbrev pub invariant-loop-step : goal.invariant-loop-step
invariant-loop-step l = record {
  count : length l.path.items ≡ length l.initial.path.items + l.step-index;
  within : l.step-index ≤ length l.steps;
  open_nodes : (could : List Choice → Choice → Bool) →
      AreOpen could l.initial.path.items 0 l.initial.nodes.items →
      Possible could l.initial.path.items → Shows could l.initial.path.items l.steps →
      AreOpen could l.path.items 0 l.nodes.items × Possible could l.path.items
      × Shows could l.path.items (drop l.step-index l.steps);
  left : runs_left l.limits.choices l.limits.steps 0 l.nodes.items
      + suc l.limits.choices ^ (suc l.limits.steps - length l.path.items)
      ≤ runs_left l.limits.choices l.limits.steps 0 l.initial.nodes.items
      + suc l.limits.choices ^ (suc l.limits.steps - length l.initial.path.items);
}
