use Rattle.std.proofs.Common.{◌≡◌}
use Rattle.tests_library.proofs.processes.calls.take.Given as goal

abbrev pub invariant-steps : goal.invariant-steps
invariant-steps g l = record {
  one : l.one.lock ≡ l.initial.one.lock;
  two : l.two.lock ≡ l.initial.two.lock;
}
