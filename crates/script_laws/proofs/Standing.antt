-- A run that deadlocks: some interleaving of its calls deadlocks in the same way.
use Rattle.std.proofs.Common.{◌≡◌, ◌≤◌, ℕ, zero, suc, ◌+◌, true, List, [], ◌∷◌, ◌++◌, length, map, Option, Some, None, slice_get, refl, ap, sym, ◌∙◌, subst, arith, Vec, Global}
use Rattle.std.specs.List.{All, AllZip, list_all}
use Rattle.std.proofs.lemmas.List.Elements.{All-head}
use Rattle.std.proofs.lemmas.List.Folds.{list_all-append}
use Rattle.fast_mutex.specs.Items.{Ticket, tickets_from}
use Rattle.mq.specs.Blocked.{is_blocked}
use Rattle.std.proofs.lemmas.Bool.{and_parts}
use Rattle.mq_model.specs.Record.{Past, Record}
use Rattle.schedules.specs.Outcomes.{AreAll, is_among}
use Rattle.schedules.specs.Observed.{Observed}
use Rattle.schedules.specs.declared.outcomes.Witnessed.{Witnessed}
use Rattle.script_orders.specs.Orders.{Begins}
use Rattle.script_orders.specs.Progress.{Progress}
use Rattle.script_orders.specs.Stage.{Stage, next_stage, stands_still, observed}
use Rattle.script_orders.specs.declared.plan.Planned.{Planned}
use Rattle.script_runner.specs.Runs.{FindsLength, IsSameProcess, calls_of}
use Rattle.script_runner.specs.Stands.{ComesToAStand, EndsIn, EndsPhase, blocked_processes, process_in}
use Rattle.script_runner.specs.Stops.{StopsInDeadlock}
use Rattle.script_runner.specs.declared.turns.Worked.{Worked}
use Rattle.script_text.specs.Script.{Whole, WrittenCall}
use Rattle.script_text.specs.declared.reply.Completion.{Completion}
use Rattle.script_laws.specs.RunLaws.{AreFound}
use Rattle.script_laws.specs.StandLaws.{AreAmpleEnds, ComesToStand, IsAmpleEnd, IsAmpleStop, Stands, replies_before, stand_outcome}
use Rattle.script_laws.proofs.Closing.{AreFirst}
use Rattle.script_laws.proofs.Course.{Move}
use Rattle.script_laws.proofs.Joins.{all-right}
use Rattle.script_laws.proofs.Growth.{AllGrown, AllLeft, AreEnds, by-calls, all-grow, calls-grow, end-then, meeting, phase-ends}
use Rattle.script_laws.proofs.Halting.{one-halts, waits-by}
use Rattle.script_laws.proofs.Halted.{Rests, halted-course, halted-still, halted-outcome}
use Rattle.script_laws.proofs.Phasing.{Reached, all-of, first-all, frame_of, new-reached, phase-runs, phases-observed, program-count, observed-found, then-after}
use Rattle.script_laws.proofs.Runners.{Frame, Runner, programs_in, seats_in}
use Rattle.script_laws.proofs.Sitting.{AllSit, Sits, end_of, one-runs}
use Rattle.script_laws.proofs.Weaving.{IsOf, ended}

-- what the processes left -------------------------------------------------------------------------

abbrev processes_of : List (Worked (Ticket Record)) → List (Ticket Record)
processes_of worked = map (λ (w : Worked (Ticket Record)). w.process) worked

all-grown : (calls : List WrittenCall) (before : List (Ticket Record))
    (worked : List (Worked (Ticket Record))) → AllZip (EndsPhase calls) before worked →
    AllGrown before (processes_of worked)
all-grown calls [] [] each = tt
all-grown calls (old ∷ before) (w ∷ worked) each =
    grind (arith, all-grown calls before worked each.1, calls-grow, waits-by, end-then, by-calls)
all-grown calls before worked each = absurd each

-- where each process is ---------------------------------------------------------------------------

record OneRests (b : Option ℕ) (p phase : ℕ) (past to : Past) (program : Vec Planned Global)
    (seat : Progress) : Type 0 where
  end : Progress
  moves : List Move
  rests : Rests b p phase past to (record {
    program = program;
    seat = seat;
    end = end;
    moves = moves;
  })

one-rests : (b : Option ℕ) (phase : ℕ) (calls : List WrittenCall) (phases : List (List WrittenCall))
    (n p : ℕ) (past to : Past) (program : Vec Planned Global) (seat : Progress)
    (old new process : Ticket Record) (completions : List Completion) →
    Sits phase (calls ∷ phases) p program seat old →
    (ends : EndsIn b (calls_of old.number calls) completions old new) →
    IsAmpleEnd b (calls_of old.number calls) completions old new ends → IsSameProcess old new →
    FindsLength n new process → old.left ≡ past → process.left ≡ to →
    list_all (is_blocked to) (process_in b new.number) ≡ true → (p ≤ 32) × AreFirst to →
    OneRests b p phase past to program seat
one-rests None phase calls phases n p past to program seat old new process completions sits ends
    ample same found before after blocked few =
    let one = one-runs phase calls phases n p past to program seat old new process completions sits
    ends same ample found before after few in
    record { end = end_of p calls seat completions; moves = one.moves; rests = one.through }
one-rests (Some line) phase calls phases n p past to program seat old new process completions sits
    ends ample same found before after blocked few =
    let here : is_blocked to p ≡ true = ap (λ (k : ℕ). is_blocked to k)
    (sym (same.number ∙ sits.number)) ∙ (and_parts (is_blocked to new.number) true blocked).0 in
    let one = one-halts phase calls phases n p line past to program seat old new process sits ends
    ample found before after here few in
    record { end = one.end; moves = one.moves; rests = one.halts }

-- the processes from number p on
record AllRest (phase p : ℕ) (past to : Past) (programs : List (Vec Planned Global))
    (seats : List Progress) (worked : List (Worked (Ticket Record))) : Type 0 where
  runners : List Runner
  programs_are : programs_in runners ≡ programs
  seats_are : seats_in runners ≡ seats
  count : length runners ≡ length worked
  rest : (i : ℕ) (r : Runner) (w : Worked (Ticket Record)) → slice_get runners i ≡ Some r →
      slice_get worked i ≡ Some w → Rests w.blocked (i + p) phase past to r

more-rest : (p phase : ℕ) (past to : Past) (first : Runner) (runners : List Runner)
    (one : Worked (Ticket Record)) (worked : List (Worked (Ticket Record))) →
    Rests one.blocked p phase past to first →
    ((i : ℕ) (r : Runner) (w : Worked (Ticket Record)) → slice_get runners i ≡ Some r →
    slice_get worked i ≡ Some w → Rests w.blocked (i + suc p) phase past to r) →
    (i : ℕ) (r : Runner) (w : Worked (Ticket Record)) → slice_get (first ∷ runners) i ≡ Some r →
    slice_get (one ∷ worked) i ≡ Some w → Rests w.blocked (i + p) phase past to r
more-rest p phase past to first runners one worked rests rest zero r w has is =
    grind (arith, Rests, Runner)
more-rest p phase past to first runners one worked rests rest (suc i) r w has is =
    let here : i + suc p ≡ suc i + p = omega arith in
    subst (λ (k : ℕ). Rests w.blocked k phase past to r) here (rest i r w has is)

all-rest : (phase : ℕ) (calls : List WrittenCall) (phases : List (List WrittenCall)) (n p : ℕ)
    (past to : Past) (programs : List (Vec Planned Global)) (seats : List Progress)
    (before : List (Ticket Record)) (worked : List (Worked (Ticket Record)))
    (after : List (Ticket Record)) (each : AllZip (EndsPhase calls) before worked) →
    AreAmpleEnds calls before worked each → AllSit phase (calls ∷ phases) p programs seats before →
    AllZip (FindsLength n) (processes_of worked) after → AllLeft past before →
    AllLeft to after →
    list_all (is_blocked to) (blocked_processes worked) ≡ true → p + length programs ≤ 33 →
    AreFirst to → AllRest phase p past to programs seats worked
all-rest phase calls phases n p past to programs seats [] [] [] each ample sit met left now blocked
    few all_first = grind arith
all-rest phase calls phases n p past to programs seats [] (w ∷ worked) after each ample sit met left
    now blocked few all_first = absurd each
all-rest phase calls phases n p past to programs seats (old ∷ before) [] after each ample sit met
    left now blocked few all_first = absurd each
all-rest phase calls phases n p past to programs seats (old ∷ before) (w ∷ worked) (t ∷ after) each
    ample sit met left now blocked few all_first =
    let many : length programs ≡ suc (length sit.1) =
    ap (λ (l : List (Vec Planned Global)). length l) sit.4 in
    let program : Vec Planned Global = sit.0 in
    let seat : Progress = sit.2 in
    let mine : List ℕ = process_in w.blocked w.process.number in
    let parts = and_parts (list_all (is_blocked to) mine) (list_all (is_blocked to)
    (blocked_processes worked))
    (sym (list_all-append (is_blocked to) mine (blocked_processes worked)) ∙ blocked) in
    let one = one-rests w.blocked phase calls phases n p past to program seat old w.process t
    w.completions.items sit.6 each.0.ends ample.0 each.0.same met.0 left.0 now.0 parts.0
    (omega (arith, many, few), all_first) in
    let rest = all-rest phase calls phases n (suc p) past to sit.1 sit.3 before worked after each.1
    ample.1 sit.7 met.1 left.1 now.1 parts.1 (omega (arith, many, few)) all_first in
    let first : Runner = record {
      program = program;
      seat = seat;
      end = one.end;
      moves = one.moves;
    } in
    record {
      runners = first ∷ rest.runners;
      programs_are = ap (λ (l : List (Vec Planned Global)). program ∷ l) rest.programs_are ∙
          sym sit.4;
      seats_are = ap (λ (l : List Progress). seat ∷ l) rest.seats_are ∙ sym sit.5;
      count = ap (λ (k : ℕ). suc k) rest.count;
      rest = more-rest p phase past to first rest.runners w worked one.rests rest.rest;
    }
all-rest phase calls phases n p past to programs seats before worked after each ample sit met left
    now blocked few all_first = absurd met

-- each process that waits is blocked in the journal that all have
all-blocked : (n : ℕ) (to : Past) (worked : List (Worked (Ticket Record)))
    (after : List (Ticket Record)) → AllZip (FindsLength n) (processes_of worked) after →
    AllLeft to after →
    All (λ process. list_all (is_blocked process.left) (blocked_processes worked) ≡ true) after →
    list_all (is_blocked to) (blocked_processes worked) ≡ true
all-blocked n to [] after met now all = refl
all-blocked n to (w ∷ worked) [] met now all = absurd met
all-blocked n to (w ∷ worked) (t ∷ after) met now all =
    rw (sym now.0) (All-head (λ process. list_all (is_blocked process.left)
    (blocked_processes (w ∷ worked)) ≡ true) t after all)

-- the deadlock ------------------------------------------------------------------------------------

last-stands : (journal : Past) (programs : List (Vec Planned Global)) (frame : Frame)
    (last : List WrittenCall) (later : List (List WrittenCall)) (before : List (Ticket Record))
    (lines : List ℕ) (after : List (Ticket Record))
    (stand : ComesToAStand last before lines after) →
    All (IsOf (length programs)) journal → length programs ≤ 32 →
    AreAmpleEnds last before stand.ended stand.each → AreEnds journal after →
    (from : Stage) (phase : ℕ) → Reached from journal programs frame phase (last ∷ later) before →
    Stands frame.script lines from phase
last-stands journal programs frame last later before lines after stand of few ample ends
    from phase reached =
    let worked : List (Worked (Ticket Record)) = stand.ended in
    let past : Past = reached.past in
    let met = meeting journal past stand.n before (processes_of worked) after reached.here
    reached.left (all-grown last before worked stand.each) stand.met ends in
    let to : Past = met.to in
    let blocked = all-blocked stand.n to worked after stand.met met.all stand.blocked in
    let all = all-rest phase last later stand.n 1 past to programs reached.seats before worked after
    stand.each ample reached.sit stand.met reached.left met.all blocked (omega (arith, few))
    (first-all (length programs) to few (all-right (IsOf (length programs)) met.end.more to
    (subst (λ (l : Past). All (IsOf (length programs)) l) met.end.is of))) in
    let runners : List Runner = all.runners in
    let runs = phase-runs from journal programs frame phase (last ∷ later) before reached to runners
    of (omega arith) met.from met.end all.programs_are all.seats_are
    (halted-course frame phase past to runners worked all.count all.rest)
    in (
      runs.0,
      ended frame phase to runners,
      record {
        runs = runs.1;
        goal = halted-still frame phase past to runners worked
            all.count all.rest;
      },
      halted-outcome frame phase past to runners worked all.count all.rest lines
          stand.are stand.some,
    )

-- what is printed for a run that deadlocks is what one interleaving gives
pub stand-observed : (script : Whole) (lines : List ℕ) (old new : Option (List ℕ)) (from : Stage)
    (stop : StopsInDeadlock script lines old new) → IsAmpleStop stop → Begins script from →
    ComesToStand from 0 (replies_before stop) lines
stand-observed script lines old new from stop ample begins =
    let s = stop.stops in
    let tickets : List (Ticket Record) = tickets_from stop.system 1 script.processes in
    let journal : Past = stop.journal in
    let of : All (IsOf (length from.programs)) journal =
    all-of script journal from begins stop.authors in
    let few : length from.programs ≤ 32 = rw (program-count script from begins) stop.few in
    let ends : AreEnds journal stop.processes = all-grow journal stop.processes stop.grows in
    let stand = s.stands in
    let between : AreEnds journal s.between = phase-ends journal stand.n s.between
    (processes_of stand.ended) stop.processes (all-grown s.last s.between stand.ended
    stand.each) stand.met ends in
    let first = rw s.are at (new-reached script stop.system journal from stop.unbounded begins) in
    phases-observed (Stands from.script lines) journal from.programs (frame_of from [])
    (s.last ∷ s.later) s.between of few between
    (last-stands journal from.programs (frame_of from []) s.last s.later s.between lines
    stop.processes stand of few ample.1 ends)
    s.first 0 from tickets s.replies s.ran ample.0 first

-- and found if all interleavings were tried
pub stand-found : (from : Stage) (found : List Witnessed) (n : ℕ) (texts : List (List ℕ))
    (lines : List ℕ) → length texts ≡ n → AreAll next_stage stands_still observed from found →
    ComesToStand from 0 texts lines →
    AreFound found 0 texts × (is_among found (stand_outcome from.script n lines) ≡ true)
stand-found from found n texts lines count all comes =
    let f = observed-found (Stands from.script lines) from from [] found 0 texts all refl comes in
    let stands = f.goes_on in
    let same : 0 + length texts ≡ n = omega (arith, count) in
    let runs = then-after f.schedule stands.0 from f.to stands.1 f.leads stands.2.runs in (
      f.phases,
      ap (λ (k : ℕ). is_among found (stand_outcome from.script k lines)) (sym same) ∙
          (ap (λ (x : Observed). is_among found x) (sym stands.3) ∙ all (f.schedule ++ stands.0)
          stands.1 (record { runs = runs; goal = stands.2.goal })),
    )
