use Rattle.std.proofs.Common.{arith}
use Rattle.mq_model.proofs.Frames.{answered_by-none}
use Rattle.mq_state.proofs.tables.Tables.can_call.Goals as goal

-- without a row of a wait there is no wait, and so no deadline and no answer
pub returns-in-None : goal.returns-in-None
returns-in-None c = grind (arith, answered_by-none)
