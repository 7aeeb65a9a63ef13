-- What a run prints for its phases is what one interleaving of its calls gives.
use Rattle.std.proofs.Common.{◌≡◌, ℕ, refl, ◌+◌, ◌≤◌, List, [], ◌∷◌, ◌++◌, length, Option, None, Some, replicate, ap, sym, ◌∙◌, subst, arith, append-nil, Vec, Global}
use Rattle.std.specs.List.{All}
use Rattle.std.proofs.lemmas.List.{length-map}
use Rattle.fast_mutex.specs.Items.{LockId, Ticket, tickets_from, tickets_with}
use Rattle.mq.specs.Calls.{bounds_in}
use Rattle.mq_model.specs.Record.{Past, Record}
use Rattle.schedules.specs.Outcomes.{AreAll, is_among}
use Rattle.schedules.specs.Schedules.{after}
use Rattle.schedules.specs.Observed.{Observed}
use Rattle.schedules.specs.declared.outcomes.Witnessed.{Witnessed}
use Rattle.schedules.proofs.Covering.{after-append}
use Rattle.script_orders.specs.Orders.{Begins, BeginsAfter}
use Rattle.script_orders.specs.Progress.{Progress}
use Rattle.script_orders.specs.Stage.{Stage, fresh, next_stage, seats_cleared, stands_still, observed}
use Rattle.script_orders.specs.declared.plan.Planned.{Planned}
use Rattle.script_runner.specs.Runs.{NoneWaits, RunsAfter, RunsPhases, RunsWhole}
use Rattle.script_text.specs.Script.{Whole, WrittenCall}
use Rattle.schedules.proofs.Backing.{all-front}
use Rattle.script_laws.specs.RunLaws.{AreAmplePhases, AreFound, AreObserved, AreObservedBefore, IsAmple, IsAmpleAfter, phase_replies, phase_outcome, replies_after, whole_replies}
use Rattle.script_laws.proofs.Beginning.{all-begin, all-left-with, count-from, in-order}
use Rattle.script_laws.proofs.Closing.{AreFirst}
use Rattle.script_laws.proofs.Growth.{AllLeft, AreEnds, IsEnd, all-grow, meeting, phase-grows, phases-end}
use Rattle.script_laws.proofs.Joins.{all-right}
use Rattle.script_laws.proofs.Resting.{AllThrough, next-begins, still, tells}
use Rattle.script_laws.proofs.Runners.{AreOnCourse, Frame, Runner, ends_in, programs_in, seats_in, staged}
use Rattle.script_laws.proofs.Sitting.{AllSit, all-run}
use Rattle.script_laws.proofs.Weaving.{IsOf, ended, weaving}

pub then-after : (schedule more : List ℕ) (from mid to : Stage) →
    after next_stage schedule from ≡ Some mid → after next_stage more mid ≡ Some to →
    after next_stage (schedule ++ more) from ≡ Some to
then-after schedule more from mid to first rest = grind (arith, after-append)

-- as many programs as processes
pub program-count : {past : Past} (script : Whole) (from : Stage) → BeginsAfter past script from →
    length from.programs ≡ script.processes
program-count script from begins = grind (arith, length-map, in-order, count-from)

pub all-of : {past : Past} (script : Whole) (journal : Past) (from : Stage) →
    BeginsAfter past script from → All (IsOf script.processes) journal →
    All (IsOf (length from.programs)) journal
all-of script journal from begins of = subst (λ (k : ℕ). All (IsOf k) journal)
    (sym (program-count script from begins)) of

-- records of few processes
pub first-all : (n : ℕ) (past : Past) → n ≤ 32 → All (IsOf n) past → AreFirst past
first-all n past few of = λ k d lt. let one = of k d lt in omega (arith, one.1, few)

-- An interleaving leads from this stage to the beginning of a phase, where these processes are.
-- `phases` are the phases from that one on.
pub record Reached (from : Stage) (journal : Past) (programs : List (Vec Planned Global))
    (frame : Frame) (phase : ℕ) (phases : List (List WrittenCall))
    (tickets : List (Ticket Record)) : Type 0 where
  pub past : Past
  pub seats : List Progress
  pub schedule : List ℕ
  pub sit : AllSit phase phases 1 programs seats tickets
  pub left : AllLeft past tickets
  pub here : IsEnd past journal
  pub count : frame.phases ≡ phase + length phases
  pub leads : 1 ≤ length phases →
      after next_stage schedule from ≡ Some (record {
        programs = programs;
        phases = frame.phases;
        script = frame.script;
        start = frame.start;
        phase = phase;
        past = past;
        seats = seats;
      })

-- if each process has a course through the phase, some interleaving takes them through it
pub phase-runs : (from : Stage) (journal : Past) (programs : List (Vec Planned Global))
    (frame : Frame) (phase : ℕ) (phases : List (List WrittenCall)) (tickets : List (Ticket Record))
    (reached : Reached from journal programs frame phase phases tickets) (to : Past)
    (runners : List Runner) →
    All (IsOf (length programs)) journal → 1 ≤ length phases → IsEnd reached.past to →
    IsEnd to journal → programs_in runners ≡ programs → seats_in runners ≡ reached.seats →
    AreOnCourse phase to reached.past runners →
    (schedule : List ℕ) × (after next_stage schedule from ≡ Some (ended frame phase to runners))
phase-runs from journal programs frame phase phases tickets reached to runners of some begin end
    programs_are seats_are on =
    let past : Past = reached.past in
    let many : length programs ≡ length runners =
    sym (ap (λ (l : List (Vec Planned Global)). length l) programs_are) ∙ length-map runners
    (λ (r : Runner). r.program) in
    let of_to : All (IsOf (length programs)) to = all-right (IsOf (length programs)) end.more to
    (subst (λ (l : Past). All (IsOf (length programs)) l) end.is of) in
    let of_more : All (IsOf (length programs)) begin.more = all-front (IsOf (length programs))
    begin.more to past begin.is of_to in
    let woven = weaving frame phase to past runners begin.more on begin.is
    (subst (λ (k : ℕ). All (IsOf k) begin.more) many of_more) in
    let start : after next_stage reached.schedule from ≡ Some (staged frame phase past runners) =
    rw (programs_are, seats_are) (reached.leads some) in (
      reached.schedule ++ woven.0,
      then-after reached.schedule woven.0 from
          (staged frame phase past runners) (ended frame phase to runners) start woven.1,
    )

-- what is printed for some phases is what one interleaving gives, which leads to the beginning of
-- the later ones
pub phases-observed : (GoesOn : Stage → ℕ → Type 0) (journal : Past)
    (programs : List (Vec Planned Global)) (frame : Frame) (later : List (List WrittenCall))
    (tickets : List (Ticket Record)) →
    All (IsOf (length programs)) journal → length programs ≤ 32 → AreEnds journal tickets →
    ((from : Stage) (phase : ℕ) → Reached from journal programs frame phase later tickets →
    GoesOn from phase) →
    (phases : List (List WrittenCall)) (phase : ℕ) (from : Stage) (before : List (Ticket Record))
    (text : List ℕ) (ran : RunsPhases phases before tickets text) →
    AreAmplePhases phases before tickets text ran →
    Reached from journal programs frame phase (phases ++ later) before →
    AreObservedBefore GoesOn from phase (phase_replies phases before tickets text ran)
phases-observed GoesOn journal programs frame later tickets of few ends
    then [] phase from before text ran ample reached = grind arith
phases-observed GoesOn journal programs frame later tickets of few ends
    then (calls ∷ phases) phase from before text ran ample reached =
    let between : List (Ticket Record) = ran.1 in
    let rest : List (List WrittenCall) = phases ++ later in
    let past : Past = reached.past in
    let met = meeting journal past ran.2 before ran.0 between reached.here reached.left
    (phase-grows calls before ran.0 ran.3 ran.5) ran.6
    (phases-end journal phases between tickets ran.4 ran.7 ends) in
    let to : Past = met.to in
    let all = all-run phase calls rest ran.2 1 past to programs reached.seats before ran.0 between
    ran.3 ran.5 ample.0 reached.sit ran.6 reached.left met.all (omega (arith, few))
    (first-all (length programs) to few (all-right (IsOf (length programs)) met.end.more to
    (subst (λ (l : Past). All (IsOf (length programs)) l) met.end.is of))) in
    let runners : List Runner = all.runners in
    let through : AllThrough phase past to runners = all.through in
    let runs = phase-runs from journal programs frame phase (calls ∷ rest) before reached to runners
    of (omega arith) met.from met.end all.programs_are all.seats_are
    (λ i r has. (through i r has).course) in
    let last : Stage = ended frame phase to runners in
    let said : observed last ≡ phase_outcome phase ran.3 = tells frame phase past to runners
    through ∙ ap (λ (l : List ℕ). phase_outcome phase l) all.replies_are in
    let n : ℕ = length (programs_in runners) in
    let on : Reached last journal programs frame (phase + 1) rest between = record {
      past = to;
      seats = seats_cleared (ends_in runners);
      schedule = n ∷ [];
      sit = all.sit;
      left = met.all;
      here = met.end;
      count = omega (arith, reached.count);
      leads = λ some. rw (
        next-begins frame phase past to runners through
            (omega (arith, some, reached.count)),
        all.programs_are,
      ) refl;
    }
    in (
      runs.0,
      last,
      record { runs = runs.1; goal = still frame phase past to runners through },
      said,
      phases-observed GoesOn journal programs frame later tickets of few ends
          then phases (phase + 1) last between ran.4 ran.7 ample.1 on,
    )

-- a stage with this journal before all phases
abbrev pub frame_of : Stage → Past → Frame
frame_of from past = record { phases = from.phases; script = from.script; start = past }

-- the processes of a script start in its first phase
pub all-reached : (past : Past) (script : Whole) (system : LockId) (journal : Past) (from : Stage) →
    bounds_in system.fixed ≡ None → NoneWaits past script.processes → IsEnd past journal →
    BeginsAfter past script from →
    Reached from journal from.programs (frame_of from past) 0 script.phases
    (tickets_with system past 1 script.processes)
all-reached past script system journal from unbounded free end begins =
    record {
      past = past;
      seats = replicate script.processes fresh;
      schedule = [];
      sit = all-begin past script.phases system script.processes from.programs unbounded free
          begins.programs;
      left = all-left-with past system 1 script.processes;
      here = end;
      count = omega (arith, begins.phases);
      leads = λ some. ap {A = Stage} {B = Option Stage} (λ s. Some s) (sym begins.first) ∙
          rw (program-count script from begins, begins.start) refl;
    }

-- before all calls
pub new-reached : (script : Whole) (system : LockId) (journal : Past) (from : Stage) →
    bounds_in system.fixed ≡ None → Begins script from →
    Reached from journal from.programs (frame_of from []) 0 script.phases
    (tickets_from system 1 script.processes)
new-reached script system journal from unbounded begins =
    all-reached [] script system journal from unbounded (λ p low high. refl)
    (record { more = journal; is = sym (append-nil journal) }) begins

-- of a run: what is printed for its phases is what one interleaving gives
pub run-observed : (script : Whole) (text : List ℕ) (journal : Past)
    (ran : RunsWhole script text journal) (from : Stage) → IsAmple ran → Begins script from →
    AreObserved from 0 (whole_replies ran)
run-observed script text journal ran from ample begins =
    let tickets : List (Ticket Record) = tickets_from ran.system 1 script.processes in
    phases-observed (λ to next. Unit {0}) journal from.programs (frame_of from []) [] ran.processes
    (all-of script journal from begins ran.authors) (rw (program-count script from begins)
    ran.few) (all-grow journal ran.processes ran.grows) (λ to next reached. tt)
    script.phases 0 from tickets text ran.ran ample
    (rw (append-nil script.phases) (new-reached script ran.system journal from
    ran.unbounded begins))

first-end : (journal past : Past) (lock : LockId) (n : ℕ) → 1 ≤ n →
    AreEnds journal (tickets_with lock past 1 n) → IsEnd past journal
first-end journal past lock n some ends = grind arith

-- a run that continues from a journal ends with a journal that extends it
pub after-end : (past : Past) (script : Whole) (text : List ℕ) (journal : Past) →
    1 ≤ script.processes → RunsAfter past script text journal → IsEnd past journal
after-end past script text journal some ran = grind (arith, first-end, phases-end, all-grow)

-- the same for a run that continues from a journal
pub run-after-observed : (past : Past) (script : Whole) (text : List ℕ) (journal : Past)
    (ran : RunsAfter past script text journal) (from : Stage) → IsEnd past journal →
    IsAmpleAfter ran → BeginsAfter past script from → AreObserved from 0 (replies_after ran)
run-after-observed past script text journal ran from end ample begins =
    let runs = ran.runs in
    let tickets : List (Ticket Record) = tickets_with ran.system past 1 script.processes in
    let authors : All (IsOf script.processes) journal = subst (λ (n : ℕ). All (IsOf n) journal)
    ran.count runs.authors in
    phases-observed (λ to next. Unit {0}) journal from.programs (frame_of from past) []
    runs.processes (all-of script journal from begins authors)
    (rw (program-count script from begins) ran.few) (all-grow journal runs.processes runs.grows)
    (λ to next reached. tt)
    script.phases 0 from tickets text runs.ran ample
    (rw (append-nil script.phases) (all-reached past script ran.system journal from ran.unbounded
    ran.free end begins))

-- if all interleavings from a first stage were tried ----------------------------------------------

-- these phases are among those found, and a stage of which GoesOn holds is reached
pub record FoundBefore (GoesOn : Stage → ℕ → Type 0) (first : Stage) (found : List Witnessed)
    (phase : ℕ) (texts : List (List ℕ)) : Type 0 where
  pub phases : AreFound found phase texts
  pub schedule : List ℕ
  pub to : Stage
  pub leads : after next_stage schedule first ≡ Some to
  pub goes_on : GoesOn to (phase + length texts)

pub observed-found : (GoesOn : Stage → ℕ → Type 0) (first from : Stage) (schedule : List ℕ)
    (found : List Witnessed) (phase : ℕ) (texts : List (List ℕ)) →
    AreAll next_stage stands_still observed first found →
    after next_stage schedule first ≡ Some from → AreObservedBefore GoesOn from phase texts →
    FoundBefore GoesOn first found phase texts
observed-found GoesOn first from schedule found phase [] all leads are = grind arith
observed-found GoesOn first from schedule found phase (text ∷ texts) all leads are =
    let runs : after next_stage (schedule ++ are.0) first ≡ Some are.1 =
    then-after schedule are.0 first from are.1 leads are.2.runs in
    let rest = observed-found GoesOn first are.1 (schedule ++ are.0) found (phase + 1) texts
    all runs are.4 in
    let here : phase + 1 + length texts ≡ phase + length (text ∷ texts) = omega arith in
    record {
      phases = (
        ap (λ (x : Observed). is_among found x) (sym are.3) ∙ all (schedule ++ are.0) are.1
            (record { runs = runs; goal = are.2.goal }),
        rest.phases,
      );
      schedule = rest.schedule;
      to = rest.to;
      leads = rest.leads;
      goes_on = subst (λ (k : ℕ). GoesOn rest.to k) here rest.goes_on;
    }

-- there are replies for each phase
pub replies-count : (phases : List (List WrittenCall)) (before tickets : List (Ticket Record))
    (text : List ℕ) (ran : RunsPhases phases before tickets text) →
    length (phase_replies phases before tickets text ran) ≡ length phases
replies-count [] before tickets text ran = refl
replies-count (calls ∷ phases) before tickets text ran =
    omega (arith, replies-count phases ran.1 tickets ran.4 ran.7)
