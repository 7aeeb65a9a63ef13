use Rattle.std.proofs.Common.{arith}
use Rattle.mq_model.proofs.Pending.{least-pending, no-pending}
use Rattle.mq_state.proofs.tables.Tables.first_of.Goals as goal

pub returns-in-None : goal.returns-in-None
returns-in-None c = grind (arith, no-pending)

pub returns-in-Some : goal.returns-in-Some
returns-in-Some c = grind (arith, least-pending)
