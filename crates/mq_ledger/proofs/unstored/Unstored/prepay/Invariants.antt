use Rattle.std.proofs.Common.{◌≡◌, ◌≤◌, ℕ}
use Rattle.mq_ledger.specs.Seen.{HasPlace}
use Rattle.mq_ledger.proofs.unstored.Unstored.prepay.Given as goal

-- there is as much room as before, and what was kept is
abbrev pub invariant-loop-class : goal.invariant-loop-class
invariant-loop-class l =
    (l.self.records ≡ l.initial.self.records)
    × (l.initial.self.entry_room ≤ l.self.entry_room)
    × (l.self.byte_room ≡ l.initial.self.byte_room)
    × ((k : ℕ) → HasPlace l.initial.self.places k → HasPlace l.self.places k)
