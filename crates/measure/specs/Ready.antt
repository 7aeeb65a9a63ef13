-- What a process needs for its next call.
use Rattle.std.specs.Prelude.{◌≡◌}
use Rattle.fast_mutex.specs.Items.{LockId, Ticket}
use Rattle.mq_model.specs.Record.{Record}
use Rattle.mq.specs.Calls.{IsFree}

-- the process was made with this system, and has no open wait
pub record IsReady (mq : LockId) (process : Ticket Record) : Type 0 where
  pub made : process.lock ≡ mq
  pub free : IsFree process
