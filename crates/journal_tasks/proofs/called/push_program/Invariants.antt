use Rattle.std.proofs.Common.{◌≡◌, ◌++◌, ◌≤◌, List, length, map, slice_get, take}
use Rattle.script_orders.specs.Plans.{plan_of}
use Rattle.journal_tasks.specs.Histories.{Asked, MakesAll, asked, completions_of}
use Rattle.journal_tasks.proofs.called.push_program.Given as goal

abbrev pub invariant-loop-index : goal.invariant-loop-index
invariant-loop-index l =
    (own : List Asked) × MakesAll l.process (slice_get (completions_of l.process l.noted))
    (map plan_of (take l.index l.program)) own
    × (map asked l.calls.items ≡ map asked l.initial.calls.items ++ own)
    × (l.index ≤ length (completions_of l.process l.noted))
