-- Processes of a new system.
use Rattle.std.proofs.Common.{◌≡◌, ℕ, List, refl, All, zero, suc}
use Rattle.std.proofs.lemmas.List.Elements.{All-from_recursion, All-same}
use Rattle.std.specs.List.{AllByRecursion as ByRecursion}
use Rattle.fast_mutex.specs.Items.{LockId, Ticket, tickets_from}
use Rattle.mq_model.specs.Record.{Record}
use Rattle.measure.specs.Ready.{IsReady}

each-new-ready : (lock : LockId) (k n : ℕ) → ByRecursion (IsReady lock) (tickets_from lock k n)
each-new-ready lock k zero = tt
each-new-ready lock k (suc n) = (record { made = refl; free = refl }, each-new-ready lock (suc k) n)

-- all processes of a new system are ready for a call
pub new-ready : (lock : LockId) (n : ℕ) (processes : List (Ticket Record)) →
    processes ≡ tickets_from lock 1 n → All (IsReady lock) processes
new-ready lock n processes new =
    All-same (IsReady lock) processes (tickets_from lock 1 n) new
    (All-from_recursion (IsReady lock) (tickets_from lock 1 n) (each-new-ready lock 1 n))
