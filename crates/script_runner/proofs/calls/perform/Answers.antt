use Rattle.std.proofs.Common.{arith}
use Rattle.script_runner.proofs.AtOnce.{or-more, shows-so}
use Rattle.script_runner.proofs.calls.perform.Goals as goal

pub returns-in-TimedSend-clause-performed : goal.returns-in-TimedSend-clause-performed
returns-in-TimedSend-clause-performed g c = grind (arith, or-more, shows-so)

pub returns-in-TimedReceive-clause-performed : goal.returns-in-TimedReceive-clause-performed
returns-in-TimedReceive-clause-performed g c = grind (arith, or-more, shows-so)
