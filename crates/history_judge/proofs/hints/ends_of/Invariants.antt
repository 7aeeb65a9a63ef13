use Rattle.std.proofs.Common.{◌≡◌, length}
use Rattle.history_judge.proofs.hints.ends_of.Given as goal

abbrev pub invariant-loop-operations : goal.invariant-loop-operations
invariant-loop-operations l = length l.hints.items ≡ l.operations-index
