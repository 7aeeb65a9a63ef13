use Rattle.std.proofs.Common.{◌≡◌, drop}
use Rattle.journal_views.specs.Followed.{bound_in}
use Rattle.journal_views.proofs.followed.bound.Given as goal

abbrev pub invariant-loop-q : goal.invariant-loop-q
invariant-loop-q l = bound_in l.journal.records l.queues l.name ≡ bound_in l.journal.records
    (drop l.q-index l.queues) l.name
