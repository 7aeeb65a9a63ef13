-- Renumbering of descriptors to this library's numbers.
use Rattle.std.specs.Prelude.{ℕ, ◌==◌, List, [], ◌∷◌, Option, None, Some, is_none, position, unwrap_or, replicate, nat_lt, slice_set, if◌then◌else◌}
use Rattle.std.specs.Option.{option_eq}
use Rattle.mq_model.specs.declared.entries.Call.{Call}
use Rattle.mq_model.specs.declared.entries.Call.TheVariants.{MqClose, MqSend, MqReceive, MqTimedSend, MqTimedReceive, MqGetattr, MqSetattr, MqNotify}
use Rattle.histories.specs.declared.operation.Operation.{Operation}
use Rattle.histories.specs.declared.operation.Outcome.{Outcome}
use Rattle.histories.specs.declared.operation.Outcome.TheVariants.{Done, Opened}

-- the implementation's number for each of this library's 16 numbers that a process holds
abbrev pub Numbers : Type 0
Numbers = List (Option ℕ)

abbrev pub no_numbers : Numbers
no_numbers = replicate 16 None

-- the first number under which a descriptor is held
abbrev pub held_at : Numbers → ℕ → Option ℕ
held_at numbers d = position (λ number. option_eq ◌==◌ number (Some d)) numbers

-- this library's number for a descriptor, or 16 if it is not held
abbrev pub own_number : Numbers → ℕ → ℕ
own_number numbers d = unwrap_or (held_at numbers d) 16

-- the lowest number that is free, or 16
abbrev pub lowest_free : Numbers → ℕ
lowest_free numbers = unwrap_or (position is_none numbers) 16

-- a call with this library's number for its descriptor
abbrev pub own_call : Numbers → Call → Call
own_call numbers (MqClose d) = MqClose (own_number numbers d)
own_call numbers (MqSend d prio len) = MqSend (own_number numbers d) prio len
own_call numbers (MqReceive d room) = MqReceive (own_number numbers d) room
own_call numbers (MqTimedSend d prio len until now) = MqTimedSend (own_number numbers d)
    prio len until now
own_call numbers (MqTimedReceive d room until now) =
    MqTimedReceive (own_number numbers d) room until now
own_call numbers (MqGetattr d) = MqGetattr (own_number numbers d)
own_call numbers (MqSetattr d nonblock) = MqSetattr (own_number numbers d) nonblock
own_call numbers (MqNotify d value) = MqNotify (own_number numbers d) value
own_call numbers call = call

-- an open returns the lowest free number
abbrev pub own_outcome : Numbers → Outcome → Outcome
own_outcome numbers (Opened d) = Opened (lowest_free numbers)
own_outcome numbers outcome = outcome

abbrev pub own_operation : Numbers → Operation → Operation
own_operation numbers o = record o {
  call = own_call numbers o.call;
  outcome = own_outcome numbers o.outcome;
}

-- What is held after a call with this library's number: the descriptor of an open that returned,
-- under the lowest number that was free; and a close that succeeded frees its number.
abbrev pub after_opened : Numbers → ℕ → ℕ → Numbers
after_opened numbers number d = if nat_lt number 16 then slice_set numbers number (Some d)
    else numbers

abbrev pub after_closed : Numbers → Call → Numbers
after_closed numbers (MqClose d) = if nat_lt d 16 then slice_set numbers d None else numbers
after_closed numbers _ = numbers

abbrev pub numbers_after : Numbers → Call → Outcome → Numbers
numbers_after numbers call (Opened d) = after_opened numbers (lowest_free numbers) d
numbers_after numbers call Done = after_closed numbers call
numbers_after numbers call _ = numbers

-- the operations of a process with this library's numbers, if it holds these at the start
abbrev pub renamed : Numbers → List Operation → List Operation
renamed numbers [] = []
renamed numbers (o ∷ operations) =
    own_operation numbers o ∷ renamed (numbers_after numbers (own_call numbers o.call) o.outcome)
    operations
