-- A process that waits for ever: the moves of its calls, and then the move that starts the wait.
use Rattle.std.proofs.lemmas.Grind.{common_steps}
use Rattle.std.proofs.Common.{◌≡◌, ◌≤◌, ℕ, ◌+◌, List, [], ◌∷◌, ◌++◌, length, map, true, refl, ap, sym, ◌∙◌, subst, append_assoc, arith, length-append, Vec, Global}
use Rattle.std.specs.List.{All}
use Rattle.std.proofs.lemmas.List.{length-map, length-replicate, map-append}
use Rattle.fast_mutex.specs.Items.{Grows, Ticket}
use Rattle.mq.specs.Blocked.{is_blocked}
use Rattle.mq.specs.Calls.{author, recorded}
use Rattle.mq.proofs.Growing.{grows-on}
use Rattle.mq_model.specs.Legality.{Legal}
use Rattle.mq_model.specs.Record.{Past, Record}
use Rattle.mq_model.specs.declared.entries.Call.{Call}
use Rattle.mq_model.specs.declared.entries.Deadline.{Deadline}
use Rattle.mq_model.specs.declared.entries.Reply.TheVariants.{Waits}
use Rattle.script_orders.specs.Plans.{given_by, plan, program_of, step_by}
use Rattle.script_orders.specs.Progress.{Progress}
use Rattle.script_orders.specs.Stage.{line_of}
use Rattle.script_orders.specs.declared.plan.Planned.{Planned}
use Rattle.script_orders.specs.declared.plan.Step.TheVariants as steps
use Rattle.script_runner.specs.Buffer.{buffer_given}
use Rattle.script_runner.specs.Runs.{Blocks, FindsLength, WaitsFor, calls_of}
use Rattle.script_runner.specs.Stands.{BlocksIn}
use Rattle.script_text.specs.ReplyLines.{reply_lines}
use Rattle.script_text.specs.Script.{WrittenCall}
use Rattle.script_text.specs.declared.command.Command.{Command}
use Rattle.script_text.specs.declared.command.Command.TheVariants as command
use Rattle.text_io.specs.Words.{Word}
use Rattle.script_laws.specs.RunLaws.{HadMemory}
use Rattle.script_laws.proofs.Closing.{AreFirst}
use Rattle.script_laws.proofs.Course.{AreLines, Course, Move}
use Rattle.script_laws.proofs.Growth.{IsEnd, by-calls, end-then}
use Rattle.script_laws.proofs.Joins.{all-right}
use Rattle.script_laws.proofs.Coursing.{came-through}
use Rattle.script_laws.proofs.Lines.{IsNext, line-begun, next-line}
use Rattle.script_laws.proofs.Moving.{IsAt, at-free, further}
use Rattle.script_laws.proofs.Performing.{next-step}
use Rattle.script_laws.proofs.Runners.{Runner}
use Rattle.script_laws.proofs.Sitting.{Sits}
use Rattle.script_laws.proofs.Splitting.{stands}
use Rattle.script_laws.proofs.Waiting.{legal-grown, wait-goes}

-- p has a course through the phase, after which it waits in the call of this line, and no entry
-- answers its wait
pub record Halts (p phase line : ℕ) (past to : Past) (r : Runner) : Type 0 where
  pub course : Course p phase r.program to r.end r.moves past r.seat
  pub blocked : is_blocked to p ≡ true
  pub line_is : line_of r.program r.end.begun ≡ line

-- the wait ----------------------------------------------------------------------------------------

-- a call that waits is one move, if only other processes add records afterwards
wait-course : (p phase : ℕ) (program : Vec Planned Global) (from to : Past) (progress : Progress)
    (mid new : Ticket Record) (call : Call) (given : List ℕ)
    → IsNext phase program progress.begun (steps.Call call) given → WaitsFor mid new call given
    → IsAt p from mid → Grows author p new.left to []
    → (moves : List Move) × Course p phase program to (further progress []) moves from progress
wait-course p phase program from to progress mid new call given next waits at after =
    let r : Record = recorded p call given Waits in
    let s = stands author p r mid.left new.left (subst (λ (k : ℕ). Grows author k mid.left new.left
    (recorded k call given Waits ∷ [])) at.number waits.calls.grows) in
    let legal : Legal (r ∷ s.found) = legal-grown p (r ∷ s.found) new.left s.later
    waits.calls.legal in
    let goes = wait-goes phase program p from s.found progress call given (at-free p from mid at)
    (grows-on at.near s.others) next legal.1 in (
      record { found = s.found; own = r ∷ []; next = further progress [] } ∷ [],
      (goes, (refl, grows-on s.later after)),
    )

-- the call in which a command waits
pub record WaitsBy (moment : Deadline) (c : Command Word) (old new : Ticket Record) : Type 0 where
  pub call : Call
  pub asks : step_by moment c ≡ steps.Call call
  pub waits : WaitsFor old new call (given_by c)

pub waits-by : (moment : Deadline) (c : Command Word) (old new : Ticket Record) →
    Blocks moment c (buffer_given c) old new → WaitsBy moment c old new
waits-by moment c old new blocks = grind (arith, length-replicate)

-- one process -------------------------------------------------------------------------------------

-- the lines of some calls, and those of the calls after them
first-lines : (phase : ℕ) (program : Vec Planned Global) (begun : ℕ)
    (made later : List WrittenCall) → AreLines program begun (map (plan phase) (made ++ later)) →
    AreLines program begun (map (plan phase) made)
first-lines phase program begun made later lines = grind (arith, common_steps, map-append)

last-lines : (phase : ℕ) (program : Vec Planned Global) (begun : ℕ)
    (made later : List WrittenCall) → AreLines program begun (map (plan phase) (made ++ later)) →
    AreLines program (begun + length made) (map (plan phase) later)
unfolding first-lines
last-lines phase program begun made later lines =
    let first = first-lines phase program begun made later lines in
    record {
      before = lines.before ++ map (plan phase) made;
      rest = lines.rest;
      are = first.are ∙ sym (append_assoc lines.before (map (plan phase) made)
          (map (plan phase) later ++ lines.rest));
      count = omega (
        arith,
        length-append lines.before (map (plan phase) made),
        length-map made
            (plan phase),
        lines.count,
      );
    }

pub record OneHalts (p phase line : ℕ) (past to : Past) (program : Vec Planned Global)
    (seat : Progress) : Type 0 where
  pub end : Progress
  pub moves : List Move
  pub halts : Halts p phase line past to (record {
    program = program;
    seat = seat;
    end = end;
    moves = moves;
  })

pub one-halts : (phase : ℕ) (calls : List WrittenCall) (phases : List (List WrittenCall))
    (n p line : ℕ) (past to : Past) (program : Vec Planned Global) (seat : Progress)
    (old new process : Ticket Record) →
    Sits phase (calls ∷ phases) p program seat old →
    (blocks : BlocksIn (calls_of old.number calls) old new line) →
    All HadMemory blocks.completions → FindsLength n new process → old.left ≡ past →
    process.left ≡ to → is_blocked to p ≡ true → (p ≤ 32) × AreFirst to →
    OneHalts p phase line past to program seat
one-halts phase calls phases n p line past to program seat old new process sits blocks memory found
    before after blocked few =
    let made : List WrittenCall = blocks.made in
    let mid : Ticket Record = blocks.mid in
    let mine : calls_of p calls ≡ made ++ blocks.call ∷ blocks.later =
    ap (λ (k : ℕ). calls_of k calls) (sym sits.number) ∙ blocks.are in
    let all : AreLines program seat.begun (map (plan phase) (calls_of p calls)) =
    record {
      before = sits.earlier;
      rest = program_of (phase + 1) phases p;
      are = sits.are;
      count = sits.count;
    } in
    let lines : AreLines program seat.begun (map (plan phase) (made ++ blocks.call ∷ blocks.later))
    = subst (λ (l : List WrittenCall). AreLines program seat.begun (map (plan phase) l)) mine
    all in
    let last : AreLines program (seat.begun + length made)
    (map (plan phase) (blocks.call ∷ blocks.later)) = last-lines phase program seat.begun made
    (blocks.call ∷ blocks.later) lines in
    let at : IsAt p past old = record {
      number = sits.number;
      bounds = sits.unbounded;
      free = sits.free;
      near = record { behind = []; is = before; mine = refl };
    } in
    let w = waits-by blocks.call.moment blocks.call.command mid new blocks.blocks in
    let grown : IsEnd mid.left to = subst (λ (l : Past). IsEnd mid.left l) after
    (end-then mid.left new.left process.left (by-calls mid new _ w.waits.calls)
    (by-calls new process [] found.calls)) in
    let first : AreFirst mid.left = all-right (λ r. author r ≤ 32) grown.more mid.left
    (subst AreFirst grown.is few.1) in
    let came = came-through p phase program made blocks.completions old mid past seat.begun
    seat.text at (few.0, first) (first-lines phase program seat.begun made (blocks.call ∷
    blocks.later) lines) blocks.ran memory in
    let progress : Progress = record {
      begun = seat.begun + length made;
      text = seat.text ++
          reply_lines p blocks.completions;
    } in
    let next = next-step phase program progress.begun
    (step_by blocks.call.moment blocks.call.command) (steps.Call w.call)
    (given_by blocks.call.command) w.asks (next-line phase program progress.begun blocks.call
    blocks.later last) in
    let now : new.number ≡ p = w.waits.calls.number ∙ came.is.number in
    let grows : Grows author p new.left to [] = rw (now, after) at found.calls.grows in
    let end : Progress = further progress [] in
    let wait = wait-course p phase program came.at to progress mid new w.call
    (given_by blocks.call.command) next w.waits came.is grows in
    let course = came.goes to end wait.0 wait.1 in
    record {
      end = end;
      moves = course.0;
      halts = record {
        course = course.1;
        blocked = blocked;
        line_is = line-begun phase program progress.begun blocks.call blocks.later last ∙
            blocks.line_is;
      };
    }
