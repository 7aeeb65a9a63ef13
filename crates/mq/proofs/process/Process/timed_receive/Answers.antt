use Rattle.std.proofs.Common.{arith}
use Rattle.mq.proofs.Collecting.{receive-waited, receive-expired}
use Rattle.mq.proofs.process.Process.timed_receive.Goals as goal

pub returns-in-Some-Got-clause-call : goal.returns-in-Some-Got-clause-call
returns-in-Some-Got-clause-call g c = grind (arith, receive-waited)

pub returns-in-None-clause-call : goal.returns-in-None-clause-call
returns-in-None-clause-call g c = grind (arith, receive-expired)
