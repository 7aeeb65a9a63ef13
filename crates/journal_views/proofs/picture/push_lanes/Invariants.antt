use Rattle.std.proofs.Common.{◌≡◌, ◌++◌, take}
use Rattle.std.specs.List.{flat_map}
use Rattle.journal_views.specs.Picture.{lane_text}
use Rattle.journal_views.proofs.picture.push_lanes.Given as goal

abbrev pub invariant-loop-p : goal.invariant-loop-p
invariant-loop-p l = l.text.items ≡ l.fn.text.items ++
    flat_map (lane_text l.journal.records l.frame.processes.items l.frame.from l.frame.count)
    (take l.p-index l.frame.processes.items)
