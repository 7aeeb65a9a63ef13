use Rattle.script_runner.proofs.Authors.{authors-within}
use Rattle.script_runner.proofs.run.journal_of.Goals as goal

pub returns-clause-authors : goal.returns-clause-authors
returns-clause-authors g c = authors-within c.args.mq.count c.in-Ok.journal.records
    c.in-Ok.ensures.legal c.in-Ok.ensures.processes
