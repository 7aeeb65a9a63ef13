use Rattle.std.proofs.Common.{◌≡◌, ◌≢◌, ℕ, ◌<◌, Some, None, slice_index_or}
use Rattle.mq_ledger.specs.Kept.{Kept}
use Rattle.mq_ledger.proofs.slots.search.Given as goal

-- no slot before this one has the place
abbrev pub invariant-loop-key : goal.invariant-loop-key
invariant-loop-key l = (key : ℕ) (x : Kept) → key < l.key →
    slice_index_or l.slots key None ≡ Some x → x.place ≢ l.place
