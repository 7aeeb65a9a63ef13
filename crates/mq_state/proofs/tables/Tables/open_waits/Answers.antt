use Rattle.std.proofs.Common.{arith}
use Rattle.mq_state.proofs.WaitsNoted.{waits-few}
use Rattle.mq_state.proofs.tables.Tables.open_waits.Goals as goal

pub returns-clause-bound : goal.returns-clause-bound
returns-clause-bound c = omega (arith, c.requires, waits-few c.args.self.now.callers.items)
