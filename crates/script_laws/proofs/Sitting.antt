-- The processes of a run at the beginning of a phase, in the machine, and the courses that their
-- calls in the phase are.
use Rattle.std.proofs.Common.{◌≡◌, ℕ, zero, suc, ◌+◌, ◌<◌, ◌≤◌, List, [], ◌∷◌, ◌++◌, length, map, Option, Some, None, slice_get, refl, ap, sym, ◌∙◌, subst, arith, append_assoc, length-append, Vec, Global}
use Rattle.std.specs.List.{All, AllZip}
use Rattle.std.specs.Option.{option_map}
use Rattle.std.proofs.lemmas.List.{length-map}
use Rattle.std.proofs.lemmas.Option.{slice_get-map}
use Rattle.fast_mutex.specs.Items.{Grows, Ticket}
use Rattle.mq.specs.Calls.{IsFree, author, bounds_in}
use Rattle.mq.proofs.Growing.{grows-on}
use Rattle.mq.proofs.Others.{wait-grown}
use Rattle.mq_model.specs.Record.{Past, Record}
use Rattle.mq_model.specs.Waits.{open_wait}
use Rattle.script_orders.specs.Plans.{Plan, plan, plan_of, program_of}
use Rattle.script_orders.specs.Progress.{Progress}
use Rattle.script_orders.specs.Stage.{replies, seats_cleared}
use Rattle.script_orders.specs.declared.plan.Planned.{Planned}
use Rattle.script_runner.specs.Runs.{FindsLength, IsSameProcess, RunsCalls, RunsPhase, calls_of}
use Rattle.script_text.specs.ReplyLines.{reply_lines}
use Rattle.script_text.specs.Script.{WrittenCall}
use Rattle.script_text.specs.declared.reply.Completion.{Completion}
use Rattle.script_laws.specs.RunLaws.{HadMemory, IsAmplePhase}
use Rattle.script_laws.proofs.Closing.{AreFirst}
use Rattle.script_laws.proofs.Course.{AreLines, Course, Move}
use Rattle.script_laws.proofs.Joins.{all-right}
use Rattle.script_laws.proofs.Coursing.{came-through}
use Rattle.script_laws.proofs.Growth.{AllLeft}
use Rattle.script_laws.proofs.Lines.{behind-them}
use Rattle.script_laws.proofs.Moving.{IsAt}
use Rattle.script_laws.proofs.Runners.{Runner, ends_in, programs_in, seats_in}

-- Process p is at the beginning of a phase, and its next line is of that phase. `phases` are the
-- phases from that one on.
pub record Sits (phase : ℕ) (phases : List (List WrittenCall)) (p : ℕ)
    (program : Vec Planned Global) (seat : Progress) (process : Ticket Record) : Type 0 where
  pub number : process.number ≡ p
  pub unbounded : bounds_in process.lock.fixed ≡ None
  pub free : IsFree process
  pub earlier : List Plan
  pub are : map plan_of program.items ≡ earlier ++ program_of phase phases p
  pub count : length earlier ≡ seat.begun
  pub text : seat.text ≡ []

-- the processes from number p on
abbrev pub AllSit : ℕ → List (List WrittenCall) → ℕ → List (Vec Planned Global) → List Progress →
    List (Ticket Record) → Type 0
AllSit phase phases p programs seats [] = (programs ≡ []) × (seats ≡ [])
AllSit phase phases p programs seats (process ∷ processes) =
    (program : Vec Planned Global) × (more : List (Vec Planned Global)) × (seat : Progress) ×
    (rest : List Progress)
    × (programs ≡ program ∷ more) × (seats ≡ seat ∷ rest)
    × Sits phase phases p program seat process × AllSit phase phases (suc p) more rest processes

-- p has a course through the phase, after which it has no open wait, and its next line is of a
-- later phase
pub record Through (p phase : ℕ) (past to : Past) (r : Runner) : Type 0 where
  pub course : Course p phase r.program to r.end r.moves past r.seat
  pub free : open_wait to p ≡ None
  pub done : (planned : Planned) → slice_get r.program.items r.end.begun ≡ Some planned →
      phase < planned.phase

-- lines of later phases ---------------------------------------------------------------------------

head-of : (phase : ℕ) (calls : List WrittenCall) (rest : List Plan) (x : Plan) →
    (slice_get rest 0 ≡ Some x → phase + 1 ≤ x.phase) →
    slice_get (map (plan phase) calls ++ rest) 0 ≡ Some x → phase ≤ x.phase
head-of phase [] rest x later has = let more = later has in omega (arith, more)
head-of phase (call ∷ calls) rest x later has = grind arith

first-line : (phase : ℕ) (phases : List (List WrittenCall)) (p : ℕ) (x : Plan) →
    slice_get (program_of phase phases p) 0 ≡ Some x → phase ≤ x.phase
first-line phase [] p x has = cc
first-line phase (calls ∷ phases) p x has =
    grind (arith, head-of, first-line (phase + 1) phases p x)

next-later : (phase : ℕ) (phases : List (List WrittenCall)) (p : ℕ) (program : Vec Planned Global)
    (earlier : List Plan) (begun : ℕ) (planned : Planned) →
    map plan_of program.items ≡ earlier ++ program_of (phase + 1) phases p →
    length earlier ≡ begun → slice_get program.items begun ≡ Some planned → phase < planned.phase
next-later phase phases p program earlier begun planned are count has =
    let there : slice_get (map plan_of program.items) begun ≡ Some (plan_of planned) =
    slice_get-map plan_of program.items begun ∙
    ap (λ (o : Option Planned). option_map plan_of o) has in
    let here : slice_get (program_of (phase + 1) phases p) 0 ≡ Some (plan_of planned) =
    sym (behind-them earlier (program_of (phase + 1) phases p)) ∙ rw (count, sym are) there in
    omega (arith, first-line (phase + 1) phases p (plan_of planned) here)

-- one process -------------------------------------------------------------------------------------

abbrev pub end_of : ℕ → List WrittenCall → Progress → List Completion → Progress
end_of p calls seat completions = record {
  begun = seat.begun + length (calls_of p calls);
  text = seat.text ++ reply_lines p completions;
}

abbrev pub cleared : Progress → Progress
cleared seat = record { begun = seat.begun; text = [] }

pub record OneRuns (phase : ℕ) (calls : List WrittenCall) (phases : List (List WrittenCall)) (p : ℕ)
    (past to : Past) (program : Vec Planned Global) (seat : Progress)
    (completions : List Completion) (process : Ticket Record) : Type 0 where
  pub moves : List Move
  pub through : Through p phase past to (record {
    program = program;
    seat = seat;
    end = end_of p calls seat completions;
    moves = moves;
  })
  pub sits : Sits (phase + 1) phases p program (cleared (end_of p calls seat completions)) process

pub one-runs : (phase : ℕ) (calls : List WrittenCall) (phases : List (List WrittenCall)) (n p : ℕ)
    (past to : Past) (program : Vec Planned Global) (seat : Progress)
    (old new process : Ticket Record) (completions : List Completion) →
    Sits phase (calls ∷ phases) p program seat old →
    RunsCalls (calls_of old.number calls) completions old new → IsSameProcess old new →
    All HadMemory completions → FindsLength n new process → old.left ≡ past →
    process.left ≡ to → (p ≤ 32) × AreFirst to →
    OneRuns phase calls phases p past to program seat completions process
one-runs phase calls phases n p past to program seat old new process completions sits ran same
    memory found before after few =
    let mine : List WrittenCall = calls_of p calls in
    let by_p : RunsCalls mine completions old new =
    subst (λ (k : ℕ). RunsCalls (calls_of k calls) completions old new) sits.number ran in
    let now : new.number ≡ p = same.number ∙ sits.number in
    let grows : Grows author p new.left to [] = rw (now, after) at found.calls.grows in
    let first : AreFirst new.left = all-right (λ r. author r ≤ 32) grows.behind new.left
    (subst AreFirst grows.is few.1) in
    let lines : AreLines program seat.begun (map (plan phase) mine) =
    record {
      before = sits.earlier;
      rest = program_of (phase + 1) phases p;
      are = sits.are;
      count = sits.count;
    } in
    let at : IsAt p past old = record {
      number = sits.number;
      bounds = sits.unbounded;
      free = sits.free;
      near = record { behind = []; is = before; mine = refl };
    } in
    let came = came-through p phase program mine completions old new past seat.begun seat.text at
    (few.0, first) lines by_p memory in
    let course = came.goes to (end_of p calls seat completions) []
    (refl, grows-on came.is.near grows) in
    let free : open_wait to p ≡ None = rw (wait-grown grows, sym came.is.number) came.is.free in
    let earlier : List Plan = sits.earlier ++ map (plan phase) mine in
    let are : map plan_of program.items ≡ earlier ++ program_of (phase + 1) phases p = sits.are ∙
    sym (append_assoc sits.earlier (map (plan phase) mine) (program_of (phase + 1) phases p)) in
    let count : length earlier ≡ seat.begun + length mine =
    omega (
      arith,
      length-append sits.earlier (map (plan phase) mine),
      length-map mine
          (plan phase),
      sits.count,
    ) in
    let number : process.number ≡ p = found.calls.number ∙ now in
    record {
      moves = course.0;
      through = record {
        course = course.1;
        free = free;
        done = λ planned has. next-later phase phases p program earlier (seat.begun + length mine)
            planned are count has;
      };
      sits = record {
        number = number;
        unbounded = ap (λ lock. bounds_in lock.fixed) (found.calls.lock ∙ same.lock) ∙
            sits.unbounded;
        free = ap (λ (k : ℕ). open_wait process.left k) number ∙
            (ap (λ (l : Past). open_wait l p) after ∙ free);
        earlier = earlier;
        are = are;
        count = count;
        text = refl;
      };
    }

-- all of them -------------------------------------------------------------------------------------

-- the processes from number p on
pub record AllRun (phase : ℕ) (phases : List (List WrittenCall)) (p : ℕ) (past to : Past)
    (programs : List (Vec Planned Global)) (seats : List Progress)
    (processes : List (Ticket Record)) (text : List ℕ) : Type 0 where
  pub runners : List Runner
  pub programs_are : programs_in runners ≡ programs
  pub seats_are : seats_in runners ≡ seats
  pub replies_are : replies (ends_in runners) ≡ text
  pub through : (i : ℕ) (r : Runner) → slice_get runners i ≡ Some r →
      Through (i + p) phase past to r
  pub sit : AllSit (phase + 1) phases p programs (seats_cleared (ends_in runners)) processes

more-through : (p phase : ℕ) (past to : Past) (first : Runner) (runners : List Runner) →
    Through p phase past to first →
    ((i : ℕ) (r : Runner) → slice_get runners i ≡ Some r → Through (i + suc p) phase past to r) →
    (i : ℕ) (r : Runner) → slice_get (first ∷ runners) i ≡ Some r → Through (i + p) phase past to r
more-through p phase past to first runners one rest zero r has = grind (arith, Runner)
more-through p phase past to first runners one rest (suc i) r has =
    let here : i + suc p ≡ suc i + p = omega arith in
    subst (λ (k : ℕ). Through k phase past to r) here (rest i r has)

pub all-run : (phase : ℕ) (calls : List WrittenCall) (phases : List (List WrittenCall)) (n p : ℕ)
    (past to : Past) (programs : List (Vec Planned Global)) (seats : List Progress)
    (before ended between : List (Ticket Record)) (text : List ℕ)
    (ran : RunsPhase calls before ended text) →
    IsAmplePhase calls before ended text ran →
    AllSit phase (calls ∷ phases) p programs seats before →
    AllZip (FindsLength n) ended between → AllLeft past before → AllLeft to between →
    p + length programs ≤ 33 → AreFirst to →
    AllRun phase phases p past to programs seats between text
all-run phase calls phases n p past to programs seats [] [] [] text ran ample sit found before after
    few first = grind arith
all-run phase calls phases n p past to programs seats [] (new ∷ ended) between text ran ample sit
    found before after few first = absurd ran
all-run phase calls phases n p past to programs seats (old ∷ olds) [] between text ran ample sit
    found before after few first = absurd ran
all-run phase calls phases n p past to programs seats (old ∷ olds) (new ∷ ended) (t ∷ between) text
    ran ample sit found before after few first =
    let many : length programs ≡ suc (length sit.1) =
    ap (λ (l : List (Vec Planned Global)). length l) sit.4 in
    let program : Vec Planned Global = sit.0 in
    let seat : Progress = sit.2 in
    let one = one-runs phase calls phases n p past to program seat old new t ran.0 sit.6 ran.2 ran.3
    ample.0 found.0 before.0 after.0 (omega (arith, many, few), first) in
    let rest = all-run phase calls phases n (suc p) past to sit.1 sit.3 olds ended between ran.1
    ran.4 ample.1 sit.7 found.1 before.1 after.1 (omega (arith, many, few)) first in
    let runner : Runner = record {
      program = program;
      seat = seat;
      end = end_of p calls seat ran.0;
      moves = one.moves;
    } in
    let said : seat.text ++ reply_lines p ran.0 ≡ reply_lines old.number ran.0 =
    rw (sit.6.text, sit.6.number) refl in
    record {
      runners = runner ∷ rest.runners;
      programs_are = ap (λ (l : List (Vec Planned Global)). program ∷ l) rest.programs_are ∙
          sym sit.4;
      seats_are = ap (λ (l : List Progress). seat ∷ l) rest.seats_are ∙ sym sit.5;
      replies_are = ap (λ (l : List ℕ). (seat.text ++ reply_lines p ran.0) ++ l) rest.replies_are ∙
          (ap (λ (l : List ℕ). l ++ ran.1) said ∙ sym ran.5);
      through = more-through p phase past to runner rest.runners one.through rest.through;
      sit = (
        program,
        sit.1,
        cleared (end_of p calls seat ran.0),
        seats_cleared
            (ends_in rest.runners),
        sit.4,
        refl,
        one.sits,
        rest.sit,
      );
    }
all-run phase calls phases n p past to programs seats before ended between text ran ample sit found
    before' after few first = absurd found
