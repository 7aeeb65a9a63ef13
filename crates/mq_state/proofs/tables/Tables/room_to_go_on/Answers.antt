use Rattle.std.proofs.Common.{arith}
use Rattle.mq_state.proofs.Bounded.{waits-counted}
use Rattle.mq_state.proofs.tables.Tables.room_to_go_on.Goals as goal

pub returns-then-entries-waits-clause-none : goal.returns-then-entries-waits-clause-none
returns-then-entries-waits-clause-none c = grind (arith, waits-counted)

pub returns-clause-none : goal.returns-clause-none
returns-clause-none c = grind (arith, waits-counted)
