use Rattle.std.proofs.Common.{rules}
use Rattle.script_text.proofs.WordCounts.{until_few, until_many}
use Rattle.script_text.proofs.command.until_of.Goals as goal

pub returns-in_default : goal.returns-in_default
returns-in_default c = search (rules, until_few, until_many)
