use Rattle.std.proofs.Common.{◌≡◌, take}
use Rattle.script_runner.specs.Phase.{text_in}
use Rattle.script_runner.proofs.text.text_of.Given as goal

abbrev pub invariant-loop-worked : goal.invariant-loop-worked
invariant-loop-worked g l = l.text.items ≡ text_in (take l.worked-index l.workers)
