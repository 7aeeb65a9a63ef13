use Rattle.std.proofs.Common.{◌≡◌, length}
use Rattle.history_judge.proofs.hints.hints_by_ends.Given as goal

abbrev pub invariant-loop-prio : goal.invariant-loop-prio
invariant-loop-prio l = length l.hints.items ≡ length l.initial.hints.items
