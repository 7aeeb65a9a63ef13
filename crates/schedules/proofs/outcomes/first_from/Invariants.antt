use Rattle.std.proofs.Common.{◌≡◌, ◌<◌, ◌≤◌, ℕ, None}
use Rattle.schedules.proofs.outcomes.first_from.Given as goal

abbrev pub invariant-loop-choice : goal.invariant-loop-choice
invariant-loop-choice g l = (choice : ℕ) → l.from ≤ choice → choice < l.choice →
    g.M.Machine.next l.machine choice ≡ None
