use Rattle.mq_laws.proofs.Needs.{alive-needed, present-needed, waiting-needed, handed-needed}
use Rattle.mq_laws.proofs.needs_what_is_asked.Goals as goal

pub returns : goal.returns
returns c = let past = c.args.journal.now.records in record {
  names = alive-needed past c.requires;
  messages = present-needed past c.requires;
  sends = waiting-needed past c.requires;
  handed = handed-needed past c.requires;
}
