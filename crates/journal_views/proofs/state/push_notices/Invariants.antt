use Rattle.std.proofs.Common.{◌≡◌, ◌++◌, map, take}
use Rattle.journal_views.specs.State.{joined, notice}
use Rattle.journal_views.proofs.state.push_notices.Given as goal

abbrev pub invariant-loop-value : goal.invariant-loop-value
invariant-loop-value l = (l.i ≡ l.value-index) × (l.text.items ≡ l.fn.text.items ++ joined l.form
    (map (notice l.form) (take l.value-index l.values)))
