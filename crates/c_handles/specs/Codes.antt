-- The codes that exports return, and what they write. Errors have their own numbers, 1 to 13.
use Rattle.std.specs.Prelude.{ℕ, Bool, true, false, Option, Some, None, Result, Ok, Err}
use Rattle.fast_mutex.specs.Items.{Ticket}
use Rattle.mq_model.specs.Record.{Record}
use Rattle.mq_model.specs.Fault.{number_of}
use Rattle.mq_model.specs.declared.faults.Fault.{Fault}
use Rattle.mq_model.specs.declared.faults.Fault.TheVariants.{TimedOut}
use Rattle.mq_model.specs.declared.entries.Status.{Status}
use Rattle.mq_model.specs.declared.entries.Received.{Received}
use Rattle.mq_state.specs.declared.collected.Collected.TheVariants.{Got, Sent}
use Rattle.c_handles.specs.declared.requests.Attributes.{Attributes}
use Rattle.c_handles.specs.declared.requests.Message.{Message}
use Rattle.c_handles.specs.declared.tried.Tried.{Tried}
use Rattle.c_handles.specs.declared.tried.Tried.TheVariants.{Waiting, Retry, Made}
use Rattle.c_handles.specs.declared.tried.Ending.{Ending}
use Rattle.c_handles.specs.declared.tried.Ending.TheVariants.{NotWaiting, Short, TooEarly, Unanswered, Withdrawn, Came}
use Rattle.c_handles.specs.declared.tried.Ending.TheVariants.{Retry as RetryEnd}

-- a code that an export returns, with what it wrote
abbrev pub told : {A : Type 0} → ℕ → A → ℕ × A
told code wrote = (code, wrote)

-- The code of a try, given the code for the result of a call. 18 stands for an empty handle.
abbrev pub code_of : {R : Type 0} → (R → ℕ) → Option (Tried R) → ℕ
code_of made None = 18
code_of made (Some Retry) = 16
code_of made (Some Waiting) = 19
code_of made (Some (Made result)) = made result

-- what a try wrote, given what a call with this result writes
abbrev pub written : {R A : Type 0} → (R → A) → A → Option (Tried R) → A
written made before None = before
written made before (Some Retry) = before
written made before (Some Waiting) = before
written made before (Some (Made result)) = made result

-- of calls that return something or fail
abbrev pub given_code : {A : Type 0} → Result A Fault → ℕ
given_code (Ok given) = 0
given_code (Err fault) = number_of fault

abbrev pub given : {A : Type 0} → A → Result A Fault → A
given before (Ok value) = value
given before (Err fault) = before

-- of a notice: 23 means that there is none
abbrev pub notice_code : Result (Option ℕ) Fault → ℕ
notice_code (Ok (Some value)) = 0
notice_code (Ok None) = 23
notice_code (Err fault) = number_of fault

abbrev pub notice_given : ℕ → Result (Option ℕ) Fault → ℕ
notice_given before (Ok (Some value)) = value
notice_given before (Ok None) = before
notice_given before (Err fault) = before

-- of a send or a receive: 17 means that it now waits
abbrev pub sent_code : Result Bool Fault → ℕ
sent_code (Ok true) = 0
sent_code (Ok false) = 17
sent_code (Err fault) = number_of fault

abbrev pub got_code : Result (Option Received) Fault → ℕ
got_code (Ok (Some received)) = 0
got_code (Ok None) = 17
got_code (Err fault) = number_of fault

abbrev pub message_of : Received → Message
message_of received = record { len = received.len; prio = received.prio }

abbrev pub message_got : Message → Result (Option Received) Fault → Message
message_got before (Ok (Some received)) = message_of received
message_got before (Ok None) = before
message_got before (Err fault) = before

abbrev pub attributes_of : Status → Attributes
attributes_of s = record {
  maxmsg = s.maxmsg;
  msgsize = s.msgsize;
  curmsgs = s.curmsgs;
  nonblock = s.nonblock;
}

abbrev pub attributes_got : Attributes → Result Status Fault → Attributes
attributes_got before (Ok status) = attributes_of status
attributes_got before (Err fault) = before

-- of the end of a wait
abbrev pub end_code : Option Ending → ℕ
end_code None = 18
end_code (Some RetryEnd) = 16
end_code (Some Unanswered) = 17
end_code (Some NotWaiting) = 20
end_code (Some Short) = 21
end_code (Some TooEarly) = 22
end_code (Some Withdrawn) = number_of TimedOut
end_code (Some (Came outcome)) = 0

abbrev pub end_message : Message → Option Ending → Message
end_message before (Some (Came (Got received))) = message_of received
end_message before (Some (Came Sent)) = before
end_message before (Some RetryEnd) = before
end_message before (Some Unanswered) = before
end_message before (Some NotWaiting) = before
end_message before (Some Short) = before
end_message before (Some TooEarly) = before
end_message before (Some Withdrawn) = before
end_message before None = before

-- of freeing a handle with this process, or without one
abbrev pub freed_code : Option (Ticket Record) → ℕ
freed_code (Some process) = 0
freed_code None = 18
