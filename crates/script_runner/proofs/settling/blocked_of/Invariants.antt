use Rattle.std.proofs.Common.{◌≡◌, take}
use Rattle.script_runner.specs.Stands.{blocked_processes}
use Rattle.script_runner.proofs.settling.blocked_of.Given as goal

abbrev pub invariant-loop-worked : goal.invariant-loop-worked
invariant-loop-worked g l = l.processes.items ≡ blocked_processes (take l.worked-index l.workers)
