use Rattle.mq_state.proofs.Reachable.{kept-roomier}
use Rattle.mq_state.proofs.tables.Tables.prepay.Goals as goal

pub returns-in-MqOpen-Opened-default-true-clause-kept :
    goal.returns-in-MqOpen-Opened-default-true-clause-kept
returns-in-MqOpen-Opened-default-true-clause-kept c =
    let made = c.prepay.ensures in
    kept-roomier c.args.journal.now c.prepay.new.self c.args.self.now c.requires.kept made.records
    made.entry_room made.byte_room made.stored made.keeps
