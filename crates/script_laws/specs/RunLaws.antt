-- How a run of a script relates to the interleavings of its calls.
use Rattle.std.specs.Prelude.{◌≡◌, ◌≢◌, ℕ, ◌+◌, true, false, List, [], ◌∷◌}
use Rattle.std.specs.List.{All}
use Rattle.fast_mutex.specs.Items.{Ticket, tickets_from, tickets_with}
use Rattle.mq_model.specs.Record.{Past, Record}
use Rattle.mq_model.specs.declared.faults.Fault.TheVariants.{NoMemory}
use Rattle.schedules.specs.Outcomes.{is_among}
use Rattle.schedules.specs.Schedules.{LeadsToGoal}
use Rattle.schedules.specs.Observed.{Observed}
use Rattle.schedules.specs.declared.outcomes.Witnessed.{Witnessed}
use Rattle.script_orders.specs.Stage.{Stage, next_stage, stands_still, observed}
use Rattle.script_runner.specs.Runs.{RunsAfter, RunsPhase, RunsPhases, RunsWhole}
use Rattle.script_text.specs.Script.{Whole, WrittenCall}
use Rattle.script_text.specs.declared.reply.Completion.{Completion}
use Rattle.script_text.specs.declared.reply.Outcome.TheVariants as outcomes

-- the call did not fail with `NoMemory`
abbrev pub HadMemory : Completion → Type 0
HadMemory completion = completion.outcome ≢ outcomes.Refused NoMemory

-- no call of a phase that was run failed with `NoMemory`
abbrev pub IsAmplePhase : (calls : List WrittenCall) (before after : List (Ticket Record))
    (text : List ℕ) → RunsPhase calls before after text → Type 0
IsAmplePhase calls [] [] text ran = Unit {0}
IsAmplePhase calls [] (new ∷ after) text ran = Unit {0}
IsAmplePhase calls (old ∷ before) [] text ran = Unit {0}
IsAmplePhase calls (old ∷ before) (new ∷ after) text ran = All HadMemory ran.0 ×
    IsAmplePhase calls before after ran.1 ran.4

-- the same for several phases
abbrev pub AreAmplePhases : (phases : List (List WrittenCall)) (before after : List (Ticket Record))
    (text : List ℕ) → RunsPhases phases before after text → Type 0
AreAmplePhases [] before after text ran = Unit {0}
AreAmplePhases (calls ∷ phases) before after text ran = IsAmplePhase calls before ran.0 ran.3 ran.5
    × AreAmplePhases phases ran.1 after ran.4 ran.7

-- the same for a script that was run whole
abbrev pub IsAmple : {script : Whole} {replies : List ℕ} {journal : Past} →
    RunsWhole script replies journal → Type 0
IsAmple {script} {replies} ran = AreAmplePhases script.phases
    (tickets_from ran.system 1 script.processes) ran.processes replies ran.ran

-- the same for a script that continued from a journal
abbrev pub IsAmpleAfter : {past : Past} {script : Whole} {replies : List ℕ} {journal : Past} →
    RunsAfter past script replies journal → Type 0
IsAmpleAfter {past} {script} {replies} ran = AreAmplePhases script.phases
    (tickets_with ran.system past 1 script.processes) ran.runs.processes replies ran.runs.ran

-- the outcome of a phase that ended with these replies
abbrev pub phase_outcome : ℕ → List ℕ → Observed
phase_outcome phase text = record { stage = phase; stuck = false; text = text }

-- the replies of each phase that was run; together they are the text
abbrev pub phase_replies : (phases : List (List WrittenCall)) (before after : List (Ticket Record))
    (text : List ℕ) → RunsPhases phases before after text → List (List ℕ)
phase_replies [] before after text ran = []
phase_replies (calls ∷ phases) before after text ran = ran.3 ∷ phase_replies phases ran.1
    after ran.4 ran.7

-- the replies of each phase of a script that was run whole
abbrev pub whole_replies : {script : Whole} {replies : List ℕ} {journal : Past} →
    RunsWhole script replies journal → List (List ℕ)
whole_replies {script} {replies} ran = phase_replies script.phases
    (tickets_from ran.system 1 script.processes) ran.processes replies ran.ran

-- the same for a script that continued from a journal
abbrev pub replies_after : {past : Past} {script : Whole} {replies : List ℕ} {journal : Past} →
    RunsAfter past script replies journal → List (List ℕ)
replies_after {past} {script} {replies} ran = phase_replies script.phases
    (tickets_with ran.system past 1 script.processes) ran.runs.processes replies ran.runs.ran

-- In some interleaving of the calls from this stage, phases end one after the other, each with its
-- replies; `phase` is the number of the first. GoesOn then holds of the stage that they lead to and
-- of the number of the next phase.
abbrev pub AreObservedBefore : (Stage → ℕ → Type 0) → Stage → ℕ → List (List ℕ) → Type 0
AreObservedBefore GoesOn from phase [] = GoesOn from phase
AreObservedBefore GoesOn from phase (text ∷ texts) =
    (schedule : List ℕ) × (to : Stage)
    × LeadsToGoal next_stage stands_still from schedule to
    × (observed to ≡ phase_outcome phase text)
    × AreObservedBefore GoesOn to (phase + 1) texts

-- the same, without a condition on what follows
abbrev pub AreObserved : Stage → ℕ → List (List ℕ) → Type 0
AreObserved from phase texts = AreObservedBefore (λ to next. Unit {0}) from phase texts

-- the replies of each phase are among the outcomes found
abbrev pub AreFound : List Witnessed → ℕ → List (List ℕ) → Type 0
AreFound found phase [] = Unit {0}
AreFound found phase (text ∷ texts) = (is_among found (phase_outcome phase text) ≡ true) ×
    AreFound found (phase + 1) texts
