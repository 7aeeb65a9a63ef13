use Rattle.std.proofs.Common.{◌≡◌, take}
use Rattle.script_runner.specs.Phase.{calls_in}
use Rattle.script_runner.specs.Runs.{calls_of}
use Rattle.script_text.specs.Script.{said_calls}
use Rattle.script_runner.proofs.deal.turns_of.Given as goal

abbrev pub invariant-loop-call : goal.invariant-loop-call
invariant-loop-call l = calls_in l.turns.items ≡
    calls_of l.process (said_calls (take l.call-index l.calls))
