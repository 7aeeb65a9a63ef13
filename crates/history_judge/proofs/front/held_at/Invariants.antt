use Rattle.std.proofs.Common.{◌≡◌, length}
use Rattle.history_judge.specs.Fronts.{AreHeld}
use Rattle.history_judge.proofs.front.held_at.Given as goal

abbrev pub invariant-loop-process : goal.invariant-loop-process
invariant-loop-process l = (length l.held.items ≡ l.process) × AreHeld l.last l.calls l.held.items
