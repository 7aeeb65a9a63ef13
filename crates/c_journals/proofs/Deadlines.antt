-- The deadlines of open waits.
use Rattle.std.proofs.Common.{◌≡◌, ℕ, length, Option, Some, None, refl, ap}
use Rattle.std.specs.Option.{option_map}
use Rattle.mq_model.specs.Record.{Past, first}
use Rattle.mq_model.specs.Waits.{open_wait, wait_deadline}
use Rattle.mq_model.proofs.Prefixes.{first-all}
use Rattle.mq_state.specs.Buffers.{room_of, waiting_call, waiting_room}
use Rattle.mq_model.proofs.OpenWaits.{deadline-none}

unmapped : {A B : Type 0} (f : A → B) (o : Option A) → option_map f o ≡ None → o ≡ None
unmapped f None e = refl
unmapped f (Some x) e = absurd (cc)

-- if no buffer is needed, there is no deadline
pub no_room : (past : Past) (p : ℕ) → waiting_room past p ≡ None → wait_deadline past p ≡ None
no_room past p e = deadline-none past p (unmapped (λ w. room_of (waiting_call past p))
    (open_wait past p) e)

-- that before all records
pub deadline_whole : (past : Past) (k p : ℕ) → k ≡ length past →
    wait_deadline (first k past) p ≡ wait_deadline past p
deadline_whole past k p e = ap (λ it. wait_deadline it p) (first-all past k e)
