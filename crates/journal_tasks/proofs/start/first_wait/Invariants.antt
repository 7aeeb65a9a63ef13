use Rattle.std.proofs.Common.{◌≡◌, ◌<◌, ◌≤◌, ℕ, None}
use Rattle.mq_model.specs.Waits.{open_wait}
use Rattle.journal_tasks.proofs.start.first_wait.Given as goal

abbrev pub invariant-loop-p : goal.invariant-loop-p
invariant-loop-p l = (q : ℕ) → q < l.p → 1 ≤ q → open_wait l.journal.records q ≡ None
