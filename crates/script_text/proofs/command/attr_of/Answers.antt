use Rattle.std.proofs.Common.{arith}
use Rattle.script_text.proofs.WordCounts.{attr_none}
use Rattle.script_text.proofs.command.attr_of.Goals as goal

pub returns-in_default : goal.returns-in_default
returns-in_default c = attr_none c.args.words.now (λ none. omega arith) (λ two. omega arith)
