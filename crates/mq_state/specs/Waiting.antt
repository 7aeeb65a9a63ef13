-- The callers that wait on a queue, the latest first.
use Rattle.std.specs.Prelude.{ℕ, ◌≡◌, ◌<◌, ◌≤◌, ◌&&◌, nat_lt, List, Option, Some, None, if◌then◌else◌}
use Rattle.mq_model.specs.Callers.{pending_in}
use Rattle.mq_model.specs.declared.callers.Caller.{Caller}
use Rattle.mq_model.specs.declared.callers.WaitKind.{WaitKind}

-- A caller has waited on queue q since this place, and none since a later one that is below the
-- bound.
pub record IsLastWait (callers : List Caller) (q : ℕ) (kind : WaitKind)
    (bound place : ℕ) : Type 0 where
  pub caller : ℕ
  pub waits : pending_in callers caller q kind ≡ Some place
  pub below : place < bound
  pub last : (k w : ℕ) → pending_in callers k q kind ≡ Some w → w < bound → w ≤ place

-- the later of two places, of which the second counts only below the bound
abbrev pub later : Option ℕ → Option ℕ → ℕ → Option ℕ
later last None bound = last
later None (Some new) bound = if nat_lt new bound then Some new else None
later (Some old) (Some new) bound = if nat_lt old new && nat_lt new bound
    then Some new else Some old
