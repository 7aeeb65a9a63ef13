use Rattle.std.proofs.Common.{◌≡◌, ◌<◌, ℕ, false, is_none}
use Rattle.mq_model.specs.Owners.{held_in}
use Rattle.mq_model.proofs.owners.free_number.Given as goal

abbrev pub invariant-loop-d : goal.invariant-loop-d
invariant-loop-d l = (e : ℕ) → e < l.d → is_none (held_in l.owners l.p e) ≡ false
