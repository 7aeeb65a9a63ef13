use Rattle.mq_model.specs.Record.{first}
use Rattle.mq_model.proofs.PresentFew.{created-bound}
use Rattle.mq_checker.proofs.expected.few_present.Goals as goal

pub returns : goal.returns
returns c =
    let few = created-bound (first c.args.k c.args.journal.now.records) c.requires.legal c.args.q
    c.requires.created in
    record {
      count = c.present_count.ensures.count;
      few = rw (← c.present_count.ensures.count) at few;
    }
