use Rattle.std.proofs.Common.{arith}
use Rattle.std.proofs.lemmas.Grind.{common_steps}
use Rattle.std.proofs.lemmas.Slice.Zip.{all_zipped_more}
use Rattle.script_runner.proofs.phase.join_all.Goals as goal

pub loop-member-preserved : goal.loop-member-preserved
loop-member-preserved g c = grind (arith, all_zipped_more, common_steps)
