use Rattle.std.proofs.Common.{◌≡◌, ◌++◌, map, take}
use Rattle.journal_views.specs.State.{joined, queue}
use Rattle.journal_views.proofs.state.push_queues.Given as goal

abbrev pub invariant-loop-q : goal.invariant-loop-q
invariant-loop-q l = (l.i ≡ l.q-index) × (l.text.items ≡ l.fn.text.items ++ joined l.form
    (map (queue l.form l.journal.records) (take l.q-index l.queues)))
