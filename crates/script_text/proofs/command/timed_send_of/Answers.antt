use Rattle.script_text.proofs.WordCounts.{timed_send_none}
use Rattle.script_text.proofs.command.timed_send_of.Goals as goal

pub returns-in_default : goal.returns-in_default
returns-in_default c = timed_send_none c.args.words.now c.in_default.len_below
