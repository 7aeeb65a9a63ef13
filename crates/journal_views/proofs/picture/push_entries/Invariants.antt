use Rattle.std.proofs.Common.{◌≡◌, ◌++◌}
use Rattle.journal_views.specs.Picture.{entries_text}
use Rattle.journal_views.proofs.picture.push_entries.Given as goal

abbrev pub invariant-loop-k : goal.invariant-loop-k
invariant-loop-k l = l.text.items ≡ l.fn.text.items ++ entries_text l.journal.records
    l.frame.processes.items l.frame.from l.frame.count l.k
