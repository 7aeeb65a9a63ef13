-- Messages of a history that were received more often than they were sent, up to a time.
use Rattle.std.specs.Prelude.{◌≡◌, ◌<◌, ℕ, Bool, false, true, ◌&&◌, ◌||◌, ◌==◌, nat_le, nat_lt, List, length, position, take, unwrap_or, Vec}
use Rattle.std.specs.List.{count_by, sum_by}
use Rattle.std.specs.Str.{bytes_eq}
use Rattle.std.specs.declared.alloc.Global.{Global}
use Rattle.mq_model.specs.Record.{Past}
use Rattle.mq_model.specs.Messages.{is_send, priority_given}
use Rattle.histories.specs.Histories.{Histories, is_complete, is_pending}
use Rattle.histories.specs.Linearizations.{IsLinearization}
use Rattle.histories.specs.Outcomes.{is_timeout}
use Rattle.histories.specs.declared.operation.Operation.{Operation}
use Rattle.histories.specs.declared.operation.Outcome.{Outcome}
use Rattle.histories.specs.declared.operation.Outcome.TheVariants.{Got, Refused}
use Rattle.histories.specs.declared.excess.Excess.{Excess}

-- A send with this result may have sent its message. One whose deadline passed may have waited.
abbrev pub may_have_sent : Outcome → Bool
may_have_sent (Refused fault) = is_timeout fault
may_have_sent _ = true

-- a send of this message that may have succeeded
abbrev pub sends : ℕ → List ℕ → Operation → Bool
sends prio message o =
    is_send o.call && may_have_sent o.outcome && priority_given o.call == prio &&
    bytes_eq o.given.items message

abbrev pub has_got : ℕ → List ℕ → Outcome → Bool
has_got prio message (Got p m) = p == prio && bytes_eq m.items message
has_got prio message _ = false

-- a receive that got this message
abbrev pub receives : ℕ → List ℕ → Operation → Bool
receives prio message o = has_got prio message o.outcome

-- the operation returned later than this time, or not at all
abbrev pub returns_after : ℕ → Operation → Bool
returns_after time o = is_pending o.outcome || nat_lt time o.end

-- the operations of a process before the first that had not returned by this time
abbrev pub returned_by : ℕ → List Operation → List Operation
returned_by time operations =
    take (unwrap_or (position (returns_after time) operations) (length operations)) operations

-- a send of this message that may have succeeded, and began by this time
abbrev pub sends_by : ℕ → ℕ → List ℕ → Operation → Bool
sends_by time prio message o = nat_le o.begin time && sends prio message o

-- how often a message was sent by this time, and how often it was received, by all processes
abbrev pub times_sent : ℕ → ℕ → List ℕ → Histories → ℕ
times_sent time prio message histories =
    sum_by (λ (v : Vec Operation Global). count_by (sends_by time prio message) v.items) histories

abbrev pub times_received : ℕ → ℕ → List ℕ → Histories → ℕ
times_received time prio message histories =
    sum_by (λ (v : Vec Operation Global). count_by (receives prio message)
    (returned_by time v.items)) histories

-- The counts are right, and by a certain time more receives had returned the message than sends of
-- it had begun.
pub record IsExcess (histories : Histories) (e : Excess) : Type 0 where
  pub received : e.received ≡ times_received e.time e.prio e.message.items histories
  pub sent : e.sent ≡ times_sent e.time e.prio e.message.items histories
  pub more : e.sent < e.received

-- no linearization of the history has each operation that returned
abbrev pub HasNoOrder : Histories → Type 0
HasNoOrder histories =
    (past : Past) → IsLinearization histories past → is_complete histories past ≡ false
