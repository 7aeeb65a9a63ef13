-- Sends that found their queue full, although too few messages can have been in it.
use Rattle.std.specs.Prelude.{◌≡◌, ◌+◌, ◌<◌, ℕ, Bool, false, true, not, ◌&&◌, ◌==◌, nat_le, nat_lt, int_lt, pos, List, Vec}
use Rattle.std.specs.List.{count_by, sum_by}
use Rattle.std.specs.Str.{bytes_eq}
use Rattle.std.specs.declared.alloc.Global.{Global}
use Rattle.mq_model.specs.Messages.{is_send, priority_given}
use Rattle.mq_model.specs.Names.{attributes_given}
use Rattle.mq_model.specs.declared.entries.Call.{Call}
use Rattle.mq_model.specs.declared.entries.Call.TheVariants.{MqOpen}
use Rattle.mq_model.specs.declared.faults.Fault.{Fault}
use Rattle.mq_model.specs.declared.faults.Fault.TheVariants.{Again, TimedOut}
use Rattle.histories.specs.Histories.{Histories}
use Rattle.histories.specs.Excess.{returned_by}
use Rattle.histories.specs.Outcomes.{has_failed}
use Rattle.histories.specs.Named.{KeepsName, calls_on, has_any, has_returned_on}
use Rattle.histories.specs.declared.operation.Operation.{Operation}
use Rattle.histories.specs.declared.operation.Outcome.{Outcome}
use Rattle.histories.specs.declared.operation.Outcome.TheVariants.{Pending, Done, Got, Refused}
use Rattle.histories.specs.declared.not_full.NotFull.{NotFull}

-- the errors of a send that finds its queue full
abbrev pub says_full : Fault → Bool
says_full Again = true
says_full TimedOut = true
says_full _ = false

-- a send with this result found its queue full
abbrev pub found_full : Outcome → Bool
found_full (Refused fault) = says_full fault
found_full _ = false

-- a send of this message that found its queue full, and began after this time
abbrev pub finds_full : ℕ → ℕ → List ℕ → Operation → Bool
finds_full time prio message o =
    is_send o.call && found_full o.outcome && priority_given o.call == prio &&
    bytes_eq o.given.items message && nat_lt time o.begin

-- The message of a send with this result may have entered its queue: the send succeeded, or had not
-- returned.
abbrev pub may_enter : Outcome → Bool
may_enter Done = true
may_enter Pending = true
may_enter _ = false

-- a send that began by this time, and succeeded or had not returned
abbrev pub enters_by : ℕ → Operation → Bool
enters_by time o = nat_le o.begin time && is_send o.call && may_enter o.outcome

abbrev pub is_got : Outcome → Bool
is_got (Got p m) = true
is_got _ = false

-- a receive that got a message
abbrev pub takes_out : Operation → Bool
takes_out o = is_got o.outcome

-- how many messages may have entered the queue by this time, by all processes
abbrev pub times_entered : ℕ → List ℕ → Histories → ℕ
times_entered time name histories =
    sum_by (λ (v : Vec Operation Global). count_by (enters_by time) (calls_on name v.items))
    histories

-- how many messages receives from the queue had returned by this time
abbrev pub times_taken : ℕ → List ℕ → Histories → ℕ
times_taken time name histories =
    sum_by (λ (v : Vec Operation Global).
    count_by takes_out (calls_on name (returned_by time v.items))) histories

-- an open that gives the queue room for fewer messages if it creates it
abbrev pub asks_less : ℕ → Call → Bool
asks_less capacity (MqOpen flags attr) =
    flags.create && int_lt (attributes_given (MqOpen flags attr)).maxmsg (pos capacity)
asks_less capacity _ = false

-- such an open of this name that began by this time and did not fail
abbrev pub creates_less : ℕ → List ℕ → ℕ → Operation → Bool
creates_less time name capacity o =
    nat_le o.begin time && asks_less capacity o.call && not (has_failed o.outcome) &&
    bytes_eq o.given.items name

-- Of the calls on the queue of the name: a send that began after `from`, and had returned by `to`,
-- found the queue full. The counts are right, and by them fewer messages than the capacity were in
-- the queue. Each open of the name that began by `to` gives a new queue that capacity at least.
-- Nothing unbinds the name until then.
pub record IsNotFull (histories : Histories) (e : NotFull) : Type 0 where
  pub full : has_returned_on e.to e.name.items (finds_full e.from e.prio e.message.items)
      histories ≡ true
  pub sent : e.sent ≡ times_entered e.to e.name.items histories
  pub received : e.received ≡ times_taken e.from e.name.items histories
  pub fewer : e.sent < e.capacity + e.received
  pub capacity : has_any (creates_less e.to e.name.items e.capacity) histories ≡ false
  pub bound : KeepsName e.to e.name.items histories
