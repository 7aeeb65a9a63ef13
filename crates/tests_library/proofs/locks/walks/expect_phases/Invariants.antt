use Rattle.std.proofs.Common.{◌∷◌, []}
use Rattle.fast_mutex.specs.Fast.{IsSeatOf}
use Rattle.tests_library.proofs.locks.walks.expect_phases.Given as goal

abbrev pub invariant-loop-phase : goal.invariant-loop-phase
invariant-loop-phase g l =
    IsSeatOf (λ s. s.title ∷ []) l.lock.table.shared.table_id l.lock.table.shared.key l.one.seat ×
    IsSeatOf (λ s. s.title ∷ []) l.lock.table.shared.table_id l.lock.table.shared.key l.two.seat
