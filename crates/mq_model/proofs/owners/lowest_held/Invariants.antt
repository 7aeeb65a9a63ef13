use Rattle.std.proofs.Common.{◌≡◌, ◌<◌, ℕ, false, is_some}
use Rattle.mq_model.specs.Owners.{held_in}
use Rattle.mq_model.proofs.owners.lowest_held.Given as goal

abbrev pub invariant-loop-d : goal.invariant-loop-d
invariant-loop-d l = (e : ℕ) → e < l.d → is_some (held_in l.owners l.p e) ≡ false
