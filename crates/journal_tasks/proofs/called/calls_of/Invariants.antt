use Rattle.std.proofs.Common.{map}
use Rattle.script_text.specs.Script.{said_phases}
use Rattle.journal_tasks.specs.Histories.{MakeFronts, asked}
use Rattle.journal_tasks.proofs.called.calls_of.Given as goal

abbrev pub invariant-loop-index : goal.invariant-loop-index
invariant-loop-index l = MakeFronts (said_phases l.script.phases.items) l.noted l.index
    (map asked l.calls.items)
