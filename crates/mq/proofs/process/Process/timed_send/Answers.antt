use Rattle.std.proofs.Common.{arith}
use Rattle.mq.proofs.Collecting.{send-waited, send-expired}
use Rattle.mq.proofs.process.Process.timed_send.Goals as goal

pub returns-in-Some-clause-call : goal.returns-in-Some-clause-call
returns-in-Some-clause-call g c = grind (arith, send-waited)

pub returns-in-None-clause-call : goal.returns-in-None-clause-call
returns-in-None-clause-call g c = grind (arith, send-expired)
