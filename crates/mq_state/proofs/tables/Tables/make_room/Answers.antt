use Rattle.std.proofs.Common.{arith}
use Rattle.mq_state.proofs.Bounded.{unbounded, waits-open}
use Rattle.mq_state.proofs.Reachable.{kept-roomier}
use Rattle.mq_state.proofs.tables.Tables.make_room.Goals as goal

pub returns-then-is_err-clause-full : goal.returns-then-is_err-clause-full
returns-then-is_err-clause-full c = grind (arith, unbounded, waits-open)

pub returns-then-is_err-clause-kept : goal.returns-then-is_err-clause-kept
returns-then-is_err-clause-kept c =
    let made = c.reserve.ensures in
    kept-roomier c.args.journal.now c.reserve.new.self c.args.self.now c.requires.kept made.records
    made.entry_room made.byte_room made.stored made.keeps

pub returns-clause-kept : goal.returns-clause-kept
returns-clause-kept c =
    let made = c.reserve.ensures in
    kept-roomier c.args.journal.now c.reserve.new.self c.args.self.now c.requires.kept made.records
    made.entry_room made.byte_room made.stored made.keeps
