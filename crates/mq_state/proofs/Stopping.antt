-- When no process can make a call.
use Rattle.std.proofs.Common.{◌≡◌, ℕ, true, false, List, [], Option, arith, unwrap_or, pos}
use Rattle.std.proofs.lemmas.Bool.Decides.{nat_tests}
use Rattle.mq_model.specs.Record.{Past}
use Rattle.mq_model.specs.Waits.{wait_deadline}
use Rattle.mq_model.specs.declared.bounds.Bounds.{Bounds}
use Rattle.mq_model.specs.declared.entries.Call.{Call}
use Rattle.mq_model.specs.declared.entries.Call.TheVariants.{MqClose, Collect, Withdraw}
use Rattle.mq_state.specs.Room.{can_make, can_call}

-- such a process can make none
pub can_make-none : (bounds : Option Bounds) (past : Past) (p : ℕ) →
    can_call bounds past p ≡ false → (call : Call) (given : List ℕ) →
    can_make bounds past p call given ≡ false
can_make-none bounds past p is call given = grind (arith, nat_tests)

-- any other can make one
pub can_make-some : (bounds : Option Bounds) (past : Past) (p : ℕ) → can_call bounds past p ≡ true →
    ((call : Call) (given : List ℕ) → can_make bounds past p call given ≡ false) → ⊥
can_make-some bounds past p is none = grind (
  arith,
  none Collect [],
  none (MqClose 0) [],
  none (Withdraw (unwrap_or (wait_deadline past p) (record { sec = pos 0; nsec = pos 0 }))) [],
)
