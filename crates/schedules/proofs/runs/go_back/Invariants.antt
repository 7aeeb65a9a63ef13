use Rattle.std.proofs.Common.{◌≡◌, Some, take}
use Rattle.schedules.specs.Schedules.{after}
use Rattle.schedules.specs.Marks.{AreMarks}
use Rattle.schedules.proofs.runs.go_back.Given as goal

-- the first choices lead to the state of the machine
abbrev pub invariant-loop-depth : goal.invariant-loop-depth
invariant-loop-depth g l = record {
  runs : after g.M.Machine.next (take l.depth l.path) (g.M.Machine.start l.fn.machine) ≡
      Some l.machine;
  start : g.M.Machine.start l.machine ≡ g.M.Machine.start l.fn.machine;
  marks : AreMarks g.M.Machine.next g.M.Machine.start g.M.Machine.IsSaved
      (g.M.Machine.start l.fn.machine) l.marks.items;
}
