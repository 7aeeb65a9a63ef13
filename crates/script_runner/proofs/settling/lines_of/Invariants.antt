use Rattle.std.proofs.Common.{◌≡◌, take}
use Rattle.script_runner.specs.Stands.{blocked_lines}
use Rattle.script_runner.proofs.settling.lines_of.Given as goal

abbrev pub invariant-loop-worked : goal.invariant-loop-worked
invariant-loop-worked g l = l.lines.items ≡ blocked_lines (take l.worked-index l.workers)
