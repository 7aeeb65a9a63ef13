use Rattle.std.proofs.Common.{◌≡◌, length}
use Rattle.history_judge.proofs.hints.hints_by_order.Given as goal

abbrev pub invariant-loop-place : goal.invariant-loop-place
invariant-loop-place l = length l.hints.items ≡ length l.initial.hints.items
