use Rattle.std.proofs.Common.{arith}
use Rattle.script_runner.proofs.Lists.{text_in-more}
use Rattle.script_runner.proofs.text.text_of.Goals as goal

pub loop-worked-preserved : goal.loop-worked-preserved
loop-worked-preserved g c = grind (arith, text_in-more)
