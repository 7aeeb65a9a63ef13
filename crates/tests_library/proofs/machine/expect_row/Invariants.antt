use Rattle.std.proofs.Common.{◌≡◌, ◌≤◌}
use Rattle.lamport_core.specs.Machine.{count}
use Rattle.tests_library.proofs.machine.expect_row.Given as goal

abbrev pub invariant-loop-i : goal.invariant-loop-i
invariant-loop-i g l = (count l.world ≡ l.n) × (1 ≤ l.n)

abbrev pub invariant-loop-i-2 : goal.invariant-loop-i-2
invariant-loop-i-2 g l = count l.world ≡ l.n
