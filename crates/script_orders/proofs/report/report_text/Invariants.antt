use Rattle.std.proofs.Common.{◌≡◌}
use Rattle.script_orders.specs.Report.{phases_text}
use Rattle.script_orders.proofs.report.report_text.Given as goal

abbrev pub invariant-loop-phase : goal.invariant-loop-phase
invariant-loop-phase l = l.text.items ≡ phases_text l.collected.found.items l.phase
