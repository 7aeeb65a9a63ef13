use Rattle.journal_views.specs.Followed.{Follows}
use Rattle.journal_views.proofs.followed.follow.Given as goal

abbrev pub invariant-loop-k : goal.invariant-loop-k
invariant-loop-k l = Follows l.journal.records l.k l.f
