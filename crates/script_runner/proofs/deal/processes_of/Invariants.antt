use Rattle.std.proofs.Common.{◌≡◌, ◌++◌, map}
use Rattle.std.specs.Vec.Iter.{into_iter_items}
use Rattle.script_runner.proofs.deal.processes_of.Given as goal

abbrev pub invariant-loop-worked : goal.invariant-loop-worked
invariant-loop-worked g l = l.processes.items ++ map (λ worked. worked.process)
    (into_iter_items l.worked-iterator) ≡ map (λ worked. worked.process) l.fn.workers.items
