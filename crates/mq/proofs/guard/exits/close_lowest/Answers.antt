use Rattle.mq.proofs.Closings.{close-refused, close-room}
use Rattle.mq.proofs.guard.exits.close_lowest.Goals as goal

pub returns-in-Refused-clause-err : goal.returns-in-Refused-clause-err
returns-in-Refused-clause-err c = close-refused _ _ _ _ _ _ _ c.requires.lowest c.in-Refused.is
    c.close.ensures.entry c.close.ensures.no_entry c.close.ensures.full

pub returns-in-Done-clause-room : goal.returns-in-Done-clause-room
returns-in-Done-clause-room c = close-room c.args.books.now.bounds c.args.books.now.records c.args.p
    c.args.d c.close.result c.in-Done.is c.close.ensures.full
