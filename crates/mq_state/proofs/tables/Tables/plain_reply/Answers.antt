use Rattle.std.proofs.Common.{arith}
use Rattle.mq_state.proofs.Reading.{free-read, many-read}
use Rattle.mq_state.proofs.tables.Tables.plain_reply.Goals as goal

pub returns-in-MqOpen : goal.returns-in-MqOpen
returns-in-MqOpen c = grind (arith, free-read, many-read)
