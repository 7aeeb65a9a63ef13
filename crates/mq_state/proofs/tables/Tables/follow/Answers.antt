use Rattle.std.proofs.Common.{arith}
use Rattle.mq_state.proofs.CallersOf.{owner-inside}
use Rattle.mq_state.proofs.tables.Tables.follow.Goals as goal

pub make_notice_room-requires-clause-process : goal.make_notice_room-requires-clause-process
make_notice_room-requires-clause-process c =
    let count = c.requires.tables.mirror.inbox_count in let le = c.requires.at_most in let inside =
    owner-inside c.args.entry.process c.args.self.now.n le in
    omega (arith, count, inside)
