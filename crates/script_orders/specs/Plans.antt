-- What the lines of a script make their processes do.
use Rattle.std.specs.Prelude.{ℕ, ◌+◌, ◌==◌, List, [], ◌∷◌, ◌++◌, filter, length, map, if◌then◌else◌, zero, suc}
use Rattle.text_io.specs.Words.{Word}
use Rattle.mq_model.specs.Name.{has_name_form, is_name}
use Rattle.mq_model.specs.declared.entries.Deadline.{Deadline}
use Rattle.mq_model.specs.declared.entries.Call.{Call}
use Rattle.mq_model.specs.declared.entries.Call.TheVariants.{MqOpen, MqClose, MqUnlink, MqSend, MqReceive, MqTimedSend, MqTimedReceive, MqGetattr, MqSetattr, MqNotify, NextNotice}
use Rattle.mq_model.specs.declared.faults.Fault.TheVariants.{Invalid, NameTooLong}
use Rattle.script_text.specs.Script.{WrittenCall}
use Rattle.script_text.specs.declared.command.Command.{Command}
use Rattle.script_text.specs.declared.command.Command.TheVariants as command
use Rattle.script_orders.specs.declared.plan.Planned.{Planned}
use Rattle.script_orders.specs.declared.plan.Step.{Step}
use Rattle.script_orders.specs.declared.plan.Step.TheVariants.{Call as ACall, Refusal, Exit}

-- a line of a script in its phase: what it does, and the name or the message of its call
pub record Plan : Type 0 where
  pub phase : ℕ
  pub line : ℕ
  pub step : Step
  pub given : List ℕ

abbrev pub plan_of : Planned → Plan
plan_of planned = record {
  phase = planned.phase;
  line = planned.line;
  step = planned.step;
  given = planned.given.items;
}

-- A call with a name. If the name is malformed, it fails before it reaches the queues.
abbrev pub named_step : List ℕ → Call → Step
named_step name call = if is_name name then ACall call
    else Refusal (if has_name_form name then NameTooLong else Invalid)

-- what a command does in a phase with this time
abbrev pub step_by : Deadline → Command Word → Step
step_by now (command.Open name flags attr) = named_step name (MqOpen flags attr)
step_by now (command.Close d) = ACall (MqClose d)
step_by now (command.Unlink name) = named_step name MqUnlink
step_by now (command.Send d prio message) = ACall (MqSend d prio (length message))
step_by now (command.Receive d room) = ACall (MqReceive d room)
step_by now (command.TimedSend d prio until message) =
    ACall (MqTimedSend d prio (length message) until now)
step_by now (command.TimedReceive d room until) = ACall (MqTimedReceive d room until now)
step_by now (command.Getattr d) = ACall (MqGetattr d)
step_by now (command.Setattr d nonblock) = ACall (MqSetattr d nonblock)
step_by now (command.Notify d value) = ACall (MqNotify d value)
step_by now command.Notice = ACall NextNotice
step_by now command.Exit = Exit

-- the name or the message of a command
abbrev pub given_by : Command Word → List ℕ
given_by (command.Open name flags attr) = name
given_by (command.Unlink name) = name
given_by (command.Send d prio message) = message
given_by (command.TimedSend d prio until message) = message
given_by other = []

-- a line of a phase
abbrev pub plan : ℕ → WrittenCall → Plan
plan phase call = record {
  phase = phase;
  line = call.line;
  step = step_by call.moment call.command;
  given = given_by call.command;
}

-- the lines of process p in a phase
abbrev pub plans_of : ℕ → List WrittenCall → ℕ → List Plan
plans_of phase calls p = map (plan phase) (filter (λ call. call.process == p) calls)

-- its lines in these phases, of which the first has the number `phase`
abbrev pub program_of : ℕ → List (List WrittenCall) → ℕ → List Plan
program_of phase [] p = []
program_of phase (calls ∷ phases) p = plans_of phase calls p ++ program_of (phase + 1) phases p

-- the lines of each of the first n processes
abbrev pub programs_of : List (List WrittenCall) → ℕ → List (List Plan)
programs_of phases zero = []
programs_of phases (suc n) = programs_of phases n ++ program_of 0 phases (n + 1) ∷ []
