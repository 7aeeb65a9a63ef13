use Rattle.std.proofs.Common.{arith}
use Rattle.mq.proofs.Others.{wait-grown, deadline-grown, room-grown}
use Rattle.mq.proofs.stays.begin.Goals as goal

pub returns-clause-wait : goal.returns-clause-wait
returns-clause-wait g c = grind (arith, wait-grown)

pub returns-clause-deadline : goal.returns-clause-deadline
returns-clause-deadline g c = grind (arith, deadline-grown)

pub returns-clause-room : goal.returns-clause-room
returns-clause-room g c = grind (arith, room-grown)
