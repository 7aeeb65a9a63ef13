use Rattle.std.proofs.Common.{◌≡◌}
use Rattle.tests_library.proofs.locks.add_many.Given as goal

abbrev pub invariant-loop-value : goal.invariant-loop-value
invariant-loop-value g l = (g.L.Lock.ticket l.seat).lock ≡ g.L.Lock.id l.lock
