use Rattle.std.proofs.Common.{arith}
use Rattle.mq_state.proofs.Stopping.{can_make-none, can_make-some}
use Rattle.mq_state.proofs.tables.Tables.nobody_can_call.Goals as goal

pub returns-then-can_call : goal.returns-then-can_call
returns-then-can_call c = grind (arith, can_make-some)

pub returns : goal.returns
returns c = grind (arith, can_make-none)
