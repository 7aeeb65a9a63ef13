use Rattle.std.proofs.Common.{arith}
use Rattle.script_runner.proofs.Blocking.{calls-later, calls-told}
use Rattle.script_runner.proofs.waiting.look_for_answer.Goals.{in-None, in-Some+then-await_answer, in-Some+else-await_answer+then-are_blocked}
use Rattle.script_runner.proofs.waiting.look_for_answer.Goals as goal

pub looks-preserved : goal.looks-preserved
looks-preserved g c = grind (arith, calls-later, calls-told)

pub returns-clause-calls : goal.returns-clause-calls
returns-clause-calls g c = grind (
  arith,
  calls-later,
  calls-told,
  in-None,
  in-Some+else-await_answer+then-are_blocked,
  in-Some+then-await_answer,
)
