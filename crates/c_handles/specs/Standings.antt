-- The process of a member, idle or with an acquisition in progress.
use Rattle.std.specs.Prelude.{◌≡◌, ◌||◌, Bool, true, false, not, Option, Some, None, IsSome, is_some}
use Rattle.fast_mutex.specs.Items.{Ticket}
use Rattle.mq_model.specs.Record.{Record}
use Rattle.mq_model.specs.Waits.{is_answered}
use Rattle.mq_state.specs.Buffers.{waiting_room}
use Rattle.mq.specs.Calls.{Entrant, no_ticket}
use Rattle.c_handles.specs.declared.standing.Standing.{Standing}

abbrev pub ticket_in : Option (Ticket Record) → Option Entrant → Ticket Record
ticket_in (Some process) way = process
ticket_in None (Some acquisition) = acquisition.process
ticket_in None None = no_ticket

abbrev pub ticket_of : Standing → Ticket Record
ticket_of s = ticket_in s.rest s.way

abbrev pub is_under_way : Standing → Bool
is_under_way s = not (is_some s.rest)

-- one of the two is present
abbrev pub is_there : Standing → Bool
is_there s = is_some s.rest || is_some s.way

-- One poll for a process without an acquisition in progress, as `Process::answered`. If it is true
-- the process is told so, and nothing else changes. It is false without an open wait. It is true if
-- the journal last left answers the wait, or if an earlier poll in this wait was true.
pub record LooksAtRest (old new : Ticket Record) (answered : Bool) : Type 0 where
  pub ticket : new ≡ record old { told = old.told || answered }
  pub free : waiting_room old.left old.number ≡ None → answered ≡ false
  pub left : is_answered old.left old.number ≡ true → answered ≡ true
  pub again : old.told ≡ true → IsSome (waiting_room old.left old.number) → answered ≡ true

-- such a poll, or none if an acquisition is in progress
abbrev pub LooksAt : Bool → Ticket Record → Ticket Record → Option Bool → Type 0
LooksAt under_way old new (Some answered) = (under_way ≡ false) × LooksAtRest old new answered
LooksAt under_way old new None = (under_way ≡ true) × (new ≡ old)
