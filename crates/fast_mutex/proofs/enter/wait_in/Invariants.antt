use Rattle.std.proofs.Common.{◌≡◌}
use Rattle.fast_mutex.proofs.enter.wait_in.Given as goal

-- the acquisition is that of the seat
abbrev pub invariant-loop : goal.invariant-loop
invariant-loop g l = g.L.Lock.walking l.walk ≡ g.L.Lock.walking l.initial.walk
