-- Messages that lay in their queue while a receive passed over them.
use Rattle.std.specs.Prelude.{◌≡◌, ℕ, Bool, false, true, ◌&&◌, ◌||◌, ◌==◌, nat_le, nat_lt, List, Option, Some, None, Vec}
use Rattle.std.specs.Str.{bytes_eq}
use Rattle.std.specs.declared.alloc.Global.{Global}
use Rattle.mq_model.specs.Messages.{is_receive, is_send, priority_given}
use Rattle.mq_model.specs.declared.faults.Fault.{Fault}
use Rattle.mq_model.specs.declared.faults.Fault.TheVariants.{Again, TimedOut}
use Rattle.histories.specs.Histories.{Histories, is_pending}
use Rattle.histories.specs.declared.operation.Operation.{Operation}
use Rattle.histories.specs.declared.operation.Outcome.{Outcome}
use Rattle.histories.specs.declared.operation.Outcome.TheVariants.{Done, Got, Refused}
use Rattle.histories.specs.Excess.{has_got, sends_by}
use Rattle.histories.specs.Named.{KeepsName, has_any_on, has_returned_on}
use Rattle.histories.specs.declared.passed.Passed.{Passed}
use Rattle.histories.specs.declared.passed.Part.{Part}
use Rattle.histories.specs.declared.passed.Part.TheVariants.{Sent, PassedOver, SentBefore, Received}

abbrev pub is_done : Outcome → Bool
is_done Done = true
is_done _ = false

-- a send of this message that succeeded
abbrev pub has_sent : ℕ → List ℕ → Operation → Bool
has_sent prio message o =
    is_send o.call && is_done o.outcome && priority_given o.call == prio &&
    bytes_eq o.given.items message

-- the errors of a receive that finds no message
abbrev pub says_empty : Fault → Bool
says_empty Again = true
says_empty TimedOut = true
says_empty _ = false

-- a receive with this result found no message of this priority or a higher one
abbrev pub passes : ℕ → Outcome → Bool
passes prio (Got p m) = nat_lt p prio
passes prio (Refused fault) = says_empty fault
passes prio _ = false

-- a receive with this result got this other message of the priority
abbrev pub got_other : ℕ → Option (Vec ℕ Global) → Outcome → Bool
got_other prio None outcome = false
got_other prio (Some other) outcome = has_got prio other.items outcome

-- such a receive, which began after this time
abbrev pub passes_over : ℕ → ℕ → Option (Vec ℕ Global) → Operation → Bool
passes_over time prio other o =
    is_receive o.call && nat_lt time o.begin &&
    (passes prio o.outcome || got_other prio other o.outcome)

-- a call that began by this time, and received this message or is a receive that had not returned
abbrev pub may_receive : ℕ → ℕ → List ℕ → Operation → Bool
may_receive time prio message o =
    nat_le o.begin time &&
    (has_got prio message o.outcome || (is_receive o.call && is_pending o.outcome))

-- a send of the other message, if there is one, that began by the time `from`
abbrev pub sends_other_of : ℕ → ℕ → Option (Vec ℕ Global) → Operation → Bool
sends_other_of from prio None o = false
sends_other_of from prio (Some other) o = sends_by from prio other.items o

abbrev pub sends_other : Passed → Operation → Bool
sends_other e o = sends_other_of e.from e.prio e.other o

-- what makes up the contradiction
abbrev pub is_part : Part → Passed → Operation → Bool
is_part Sent e o = has_sent e.prio e.message.items o
is_part PassedOver e o = passes_over e.from e.prio e.other o
is_part SentBefore e o = sends_other e o
is_part Received e o = may_receive e.to e.prio e.message.items o

-- Of the calls on the queue of the name: a send of the message had returned by the time `from`. A
-- receive that began later, and had returned by the time `to`, found no message of its priority or
-- a higher one, or got another message of the priority, of which no send had begun by `from`. No
-- call that began by `to` may have received the message. Nothing unbinds the name until then.
pub record IsPassed (histories : Histories) (e : Passed) : Type 0 where
  pub sent : has_returned_on e.from e.name.items (is_part Sent e) histories ≡ true
  pub passed : has_returned_on e.to e.name.items (is_part PassedOver e) histories ≡ true
  pub later : has_any_on e.name.items (is_part SentBefore e) histories ≡ false
  pub stays : has_any_on e.name.items (is_part Received e) histories ≡ false
  pub bound : KeepsName e.to e.name.items histories
