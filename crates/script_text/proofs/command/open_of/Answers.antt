use Rattle.script_text.proofs.WordCounts.{open_none}
use Rattle.script_text.proofs.command.open_of.Goals as goal

pub returns-in_default : goal.returns-in_default
returns-in_default c = open_none c.args.words.now c.in_default.len_below
