use Rattle.std.proofs.Common.{◌≡◌, ◌++◌}
use Rattle.journal_views.specs.Picture.{heads_text}
use Rattle.journal_views.proofs.picture.push_heads.Given as goal

abbrev pub invariant-loop-k : goal.invariant-loop-k
invariant-loop-k l = l.text.items ≡ l.fn.text.items ++ heads_text l.x l.number l.k
