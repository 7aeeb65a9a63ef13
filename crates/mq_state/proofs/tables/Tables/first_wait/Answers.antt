use Rattle.std.proofs.Common.{arith}
use Rattle.mq_model.proofs.Pending.{no-pending}
use Rattle.mq_state.proofs.WaitCounts.{nobody-waits, pending-off}
use Rattle.mq_state.proofs.WaitsKnown.{count-known}
use Rattle.mq_state.proofs.tables.Tables.first_wait.Goals as goal

pub returns-then-count-eq0 : goal.returns-then-count-eq0
returns-then-count-eq0 c = grind (arith, count-known, no-pending, nobody-waits, pending-off)
