use Rattle.std.proofs.Common.{◌≡◌, ◌++◌, drop}
use Rattle.script_orders.specs.Report.{entries_text}
use Rattle.script_orders.proofs.report.push_entries.Given as goal

abbrev pub invariant-loop-at : goal.invariant-loop-at
invariant-loop-at l = l.text.items ++ entries_text l.phase l.at (drop l.at l.found) ≡
    l.initial.text.items ++ entries_text l.phase 0 l.found
