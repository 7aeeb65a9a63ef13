use Rattle.std.proofs.Common.{◌≡◌, Some, take}
use Rattle.schedules.specs.Schedules.{after}
use Rattle.schedules.specs.Marks.{AreMarks}
use Rattle.schedules.specs.Ranks.{by_rank}
use Rattle.schedules.proofs.ranked.go_back_by_rank.Given as goal

-- the first ranks lead to the state of the machine
abbrev pub invariant-loop-depth : goal.invariant-loop-depth
invariant-loop-depth g l = record {
  runs : after (by_rank g.M.Machine.next g.M.Ranked.ranking) (take l.depth l.path)
      (g.M.Machine.start l.fn.machine) ≡ Some l.machine;
  start : g.M.Machine.start l.machine ≡ g.M.Machine.start l.fn.machine;
  marks : AreMarks (by_rank g.M.Machine.next g.M.Ranked.ranking) g.M.Machine.start
      g.M.Machine.IsSaved (g.M.Machine.start l.fn.machine) l.marks.items;
}
