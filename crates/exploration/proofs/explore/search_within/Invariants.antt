use Rattle.std.proofs.Common.{◌≡◌, suc, ◌+◌, ◌-◌, ◌^◌, length}
use Rattle.exploration.specs.Shown.{AreOpen, Possible, runs_left}
use Rattle.exploration.proofs.explore.search_within.Given as goal

-- what is asked next was shown as possible, and so was all that is open
abbrev pub invariant-runs : goal.invariant-runs
invariant-runs g l = record {
  limits : l.search.limits ≡ l.options.limits;
  path : l.request.choices.items ≡ l.search.path.items;
  open_nodes : AreOpen (g.P.Program.could l.program) l.search.path.items 0 l.search.nodes.items;
  asked : Possible (g.P.Program.could l.program) l.request.choices.items;
}

-- how many runs are left at most
abbrev pub decreases-runs : goal.decreases-runs
decreases-runs g l =
    runs_left l.options.limits.choices l.options.limits.steps 0 l.search.nodes.items
    + suc l.options.limits.choices ^ (suc l.options.limits.steps - length l.request.choices.items)
