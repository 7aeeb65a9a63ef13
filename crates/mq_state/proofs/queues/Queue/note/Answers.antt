use Rattle.std.proofs.Common.{rules}
use Rattle.mq_state.proofs.queues.Queue.note.Goals as goal

pub push-requires-in-Some : goal.push-requires-in-Some
push-requires-in-Some c = search rules
