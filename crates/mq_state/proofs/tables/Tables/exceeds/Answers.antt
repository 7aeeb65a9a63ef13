use Rattle.std.proofs.Common.{arith}
use Rattle.mq_state.proofs.Bounded.{waits-open}
use Rattle.mq_state.proofs.tables.Tables.exceeds.Goals as goal

pub returns : goal.returns
returns c = grind (arith, waits-open)
