use Rattle.std.proofs.Common.{◌≡◌, ◌++◌, map, take}
use Rattle.journal_views.specs.State.{joined, process}
use Rattle.journal_views.proofs.state.push_processes.Given as goal

abbrev pub invariant-loop-p : goal.invariant-loop-p
invariant-loop-p l = (l.i ≡ l.p-index) × (l.text.items ≡ l.fn.text.items ++ joined l.form
    (map (process l.form l.journal.records) (take l.p-index l.processes)))
