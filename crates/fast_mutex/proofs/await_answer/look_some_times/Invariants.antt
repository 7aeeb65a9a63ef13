use Rattle.std.proofs.Common.{◌≡◌}
use Rattle.fast_mutex.proofs.await_answer.look_some_times.Given as goal

-- no poll was true, so the seat knows what it knew
abbrev pub invariant-loop : goal.invariant-loop
invariant-loop g l = g.L.Lock.ticket l.seat ≡ g.L.Lock.ticket l.initial.seat
