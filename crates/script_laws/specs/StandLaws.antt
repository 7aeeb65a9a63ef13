-- How a run of a script that deadlocks relates to the interleavings of its calls.
use Rattle.std.specs.Prelude.{◌≡◌, ℕ, true, Option, None, Some, List, [], ◌∷◌, ◌++◌}
use Rattle.std.specs.List.{All, AllZip}
use Rattle.fast_mutex.specs.Items.{Ticket, tickets_from}
use Rattle.mq_model.specs.Record.{Record}
use Rattle.schedules.specs.Schedules.{LeadsToGoal}
use Rattle.schedules.specs.Observed.{Observed}
use Rattle.script_orders.specs.Stage.{Stage, next_stage, stands_still, observed}
use Rattle.script_orders.specs.Waiting.{wait_text}
use Rattle.script_runner.specs.Runs.{calls_of}
use Rattle.script_runner.specs.Stands.{EndsIn, EndsPhase}
use Rattle.script_runner.specs.Stops.{StopsInDeadlock}
use Rattle.script_runner.specs.declared.turns.Worked.{Worked}
use Rattle.script_text.specs.Script.{Whole, WrittenCall}
use Rattle.script_text.specs.declared.reply.Completion.{Completion}
use Rattle.script_laws.specs.RunLaws.{AreAmplePhases, AreObservedBefore, HadMemory, phase_replies}

-- No call that the process made failed with `NoMemory`. If it waits for ever, this is said of the
-- calls before that wait.
abbrev pub IsAmpleEnd : (blocked : Option ℕ) (calls : List WrittenCall)
    (completions : List Completion) (old new : Ticket Record) →
    EndsIn blocked calls completions old new → Type 0
IsAmpleEnd None calls completions old new ends = All HadMemory completions
IsAmpleEnd (Some line) calls completions old new ends = All HadMemory ends.completions

-- the same for a phase that deadlocked
abbrev pub AreAmpleEnds : (calls : List WrittenCall) (before : List (Ticket Record))
    (ended : List (Worked (Ticket Record))) → AllZip (EndsPhase calls) before ended → Type 0
AreAmpleEnds calls [] [] each = Unit {0}
AreAmpleEnds calls [] (worked ∷ ended) each = Unit {0}
AreAmpleEnds calls (old ∷ before) [] each = Unit {0}
AreAmpleEnds calls (old ∷ before) (worked ∷ ended) each =
    IsAmpleEnd worked.blocked (calls_of old.number calls) worked.completions.items old
    worked.process each.0.ends
    × AreAmpleEnds calls before ended each.1

-- the same for a run that deadlocked
abbrev pub IsAmpleStop : {script : Whole} {lines : List ℕ} {old new : Option (List ℕ)} →
    StopsInDeadlock script lines old new → Type 0
IsAmpleStop {script} stop =
    AreAmplePhases stop.stops.first (tickets_from stop.system 1 script.processes) stop.stops.between
    stop.stops.replies stop.stops.ran
    × AreAmpleEnds stop.stops.last stop.stops.between stop.stops.stands.ended stop.stops.stands.each

-- the report of the calls in these lines of a script, which wait for ever
abbrev pub stand_text : List ℕ → List ℕ → List ℕ
stand_text script [] = []
stand_text script (line ∷ lines) = wait_text script line ++ stand_text script lines

-- the outcome of a phase that deadlocks in the calls of these lines of a script
abbrev pub stand_outcome : List ℕ → ℕ → List ℕ → Observed
stand_outcome script phase lines = record {
  stage = phase;
  stuck = true;
  text = stand_text script lines;
}

-- in some interleaving of the calls from this stage, the phase with this number deadlocks in the
-- calls of these lines of a script
abbrev pub Stands : List ℕ → List ℕ → Stage → ℕ → Type 0
Stands script lines from phase =
    (schedule : List ℕ) × (to : Stage) × LeadsToGoal next_stage stands_still from schedule to ×
    (observed to ≡ stand_outcome script phase lines)

-- In some interleaving of the calls from this stage, phases end one after the other, each with its
-- replies, and then the next one deadlocks in the calls of these lines of its script. `phase` is
-- the number of the first.
abbrev pub ComesToStand : Stage → ℕ → List (List ℕ) → List ℕ → Type 0
ComesToStand from phase texts lines = AreObservedBefore (Stands from.script lines) from phase texts

-- the replies of each phase of a run that ended before the one that deadlocked
abbrev pub replies_before : {script : Whole} {lines : List ℕ} {old new : Option (List ℕ)} →
    StopsInDeadlock script lines old new → List (List ℕ)
replies_before {script} stop =
    phase_replies stop.stops.first (tickets_from stop.system 1 script.processes) stop.stops.between
    stop.stops.replies stop.stops.ran
