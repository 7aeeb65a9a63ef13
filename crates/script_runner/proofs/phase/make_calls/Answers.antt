use Rattle.script_runner.proofs.SideBySide.{zip-then}
use Rattle.std.proofs.Common.{arith}
use Rattle.script_runner.proofs.phase.make_calls.Goals as goal

pub returns : goal.returns
returns g c = grind (arith, zip-then)
