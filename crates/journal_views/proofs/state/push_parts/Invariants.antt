use Rattle.std.proofs.Common.{◌≡◌, ◌++◌, map, take}
use Rattle.journal_views.specs.Parts.{part}
use Rattle.journal_views.specs.State.{joined, at}
use Rattle.journal_views.proofs.state.push_parts.Given as goal

abbrev pub invariant-loop-place : goal.invariant-loop-place
invariant-loop-place l = (l.i ≡ l.place-index) × (l.text.items ≡ l.fn.text.items ++ joined l.form
    (map (at (part l.kind l.form) l.journal.records) (take l.place-index l.places)))
