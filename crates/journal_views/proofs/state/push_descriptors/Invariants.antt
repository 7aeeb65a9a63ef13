use Rattle.std.proofs.Common.{◌≡◌, ◌++◌, map, take}
use Rattle.mq_model.specs.Descriptors.{held}
use Rattle.journal_views.specs.State.{joined, descriptor}
use Rattle.journal_views.proofs.state.push_descriptors.Given as goal

abbrev pub invariant-loop-d : goal.invariant-loop-d
invariant-loop-d l = (l.i ≡ l.d-index) × (l.text.items ≡ l.fn.text.items ++ joined l.form
    (map (λ d. descriptor l.form d (held l.journal.records l.p d)) (take l.d-index l.numbers)))
