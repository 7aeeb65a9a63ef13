use Rattle.std.proofs.Common.{◌≡◌, ℕ, ◌<◌, None}
use Rattle.history_judge.specs.WellFormed.{fault_at}
use Rattle.history_judge.proofs.Noting.{AreNoted}
use Rattle.history_judge.proofs.well_formed.first_fault.Given as goal

abbrev pub invariant-loop-n : goal.invariant-loop-n
invariant-loop-n l = AreNoted l.calls l.n l.begins l.ends l.pending ×
    ((m : ℕ) → m < l.n → fault_at l.calls m ≡ None)
