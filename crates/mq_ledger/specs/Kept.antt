-- What is kept of an entry that later replies may need.
use Rattle.std.specs.Prelude.{ℕ, List, Option}

-- its sequence number, the priority of the message that it sends, the queue with which it is lost,
-- and its payload
pub record Kept : Type 0 where
  pub place : ℕ
  pub prio : ℕ
  pub home : Option ℕ
  pub bytes : List ℕ
