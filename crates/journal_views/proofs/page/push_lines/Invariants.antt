use Rattle.std.proofs.Common.{◌≡◌, ◌++◌}
use Rattle.std.specs.List.{flat_map}
use Rattle.journal_views.specs.Page.{lines_text, shielded}
use Rattle.journal_views.proofs.page.push_lines.Given as goal

abbrev pub invariant-loop-k : goal.invariant-loop-k
invariant-loop-k l = l.text.items ≡ l.fn.text.items ++ flat_map shielded
    (lines_text l.journal.records l.from l.k)
