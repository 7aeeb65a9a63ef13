use Rattle.std.proofs.Common.{◌≡◌}
use Rattle.mq.specs.Calls.{IsFree}
use Rattle.tests_library.proofs.processes.threads.receive_all.Given as goal

abbrev pub invariant-numbers : goal.invariant-numbers
invariant-numbers g l = (l.p.lock ≡ l.initial.p.lock) × IsFree l.p
