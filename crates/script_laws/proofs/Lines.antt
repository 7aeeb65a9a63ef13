-- The next line of a process, and the turn that starts it.
use Rattle.std.proofs.Common.{◌≡◌, ℕ, suc, ◌+◌, List, [], ◌∷◌, ◌++◌, length, length-append, append_assoc, map, Option, Some, None, slice_get, refl, ap, sym, ◌∙◌, arith, eq-eqb, Vec, Global}
use Rattle.std.specs.Option.{option_map, unwrap_or}
use Rattle.std.proofs.lemmas.Option.{slice_get-map}
use Rattle.mq.specs.Calls.{recorded}
use Rattle.mq_model.specs.Legality.{IsLegalNext}
use Rattle.mq_model.specs.Record.{Past}
use Rattle.mq_model.specs.Waits.{open_wait}
use Rattle.mq_model.specs.declared.entries.Call.{Call}
use Rattle.mq_model.specs.declared.entries.Call.TheVariants.{Collect}
use Rattle.mq_model.specs.declared.entries.Reply.{Reply}
use Rattle.mq_state.proofs.Trails.{call-of-legal, reply-by-payload}
use Rattle.script_orders.specs.Plans.{Plan, given_by, plan, plan_of, step_by}
use Rattle.script_orders.specs.Progress.{Progress}
use Rattle.script_orders.specs.Said.{said}
use Rattle.script_orders.specs.Scenes.{Scene, after_call, after_step}
use Rattle.script_orders.specs.Stage.{line_of}
use Rattle.script_orders.specs.Turns.{after_turn, scene_of, turned}
use Rattle.script_orders.specs.declared.plan.Planned.{Planned}
use Rattle.script_orders.specs.declared.plan.Step.{Step}
use Rattle.script_text.specs.Script.{WrittenCall}
use Rattle.script_laws.proofs.Course.{AreLines}

-- the line with this number is of the phase, and makes this step
pub record IsNext (phase : ℕ) (program : Vec Planned Global) (begun : ℕ) (step : Step)
    (given : List ℕ) : Type 0 where
  pub planned : Planned
  pub has : slice_get program.items begun ≡ Some planned
  pub in_phase : planned.phase ≡ phase
  pub asks : planned.step ≡ step
  pub brings : planned.given.items ≡ given

pub behind-them : {A : Type 0} (earlier rest : List A) →
    slice_get (earlier ++ rest) (length earlier) ≡ slice_get rest 0
behind-them [] rest = refl
behind-them (x ∷ earlier) rest = behind-them earlier rest

planned-is : (phase : ℕ) (program : Vec Planned Global) (begun : ℕ) (call : WrittenCall)
    (o : Option Planned) → slice_get program.items begun ≡ o →
    option_map plan_of o ≡ Some (plan phase call) →
    IsNext phase program begun (step_by call.moment call.command) (given_by call.command)
planned-is phase program begun call None has is = absurd (cc)
planned-is phase program begun call (Some planned) has is =
    let same : plan_of planned ≡ plan phase call = cc in
    record {
      planned = planned;
      has = has;
      in_phase = ap (λ (x : Plan). x.phase) same;
      asks = ap (λ (x : Plan). x.step) same;
      brings = ap (λ (x : Plan). x.given) same;
    }

plan-there : (phase : ℕ) (program : Vec Planned Global) (begun : ℕ) (call : WrittenCall)
    (calls : List WrittenCall) → AreLines program begun (map (plan phase) (call ∷ calls)) →
    option_map plan_of (slice_get program.items begun) ≡ Some (plan phase call)
plan-there phase program begun call calls lines =
    sym (slice_get-map plan_of program.items begun) ∙ rw (lines.are, sym lines.count)
    (behind-them lines.before (plan phase call ∷ (map (plan phase) calls ++ lines.rest)))

pub next-line : (phase : ℕ) (program : Vec Planned Global) (begun : ℕ) (call : WrittenCall)
    (calls : List WrittenCall) → AreLines program begun (map (plan phase) (call ∷ calls)) →
    IsNext phase program begun (step_by call.moment call.command) (given_by call.command)
next-line phase program begun call calls lines = planned-is phase program begun call
    (slice_get program.items begun) refl (plan-there phase program begun call calls lines)

line-in : (o : Option Planned) (x : Plan) → option_map plan_of o ≡ Some x →
    unwrap_or (option_map (λ (planned : Planned). planned.line) o) 0 ≡ x.line
line-in o x is = grind arith

-- the last line that was started is that of the call
pub line-begun : (phase : ℕ) (program : Vec Planned Global) (begun : ℕ) (call : WrittenCall)
    (calls : List WrittenCall) → AreLines program begun (map (plan phase) (call ∷ calls)) →
    line_of program (begun + 1) ≡ call.line
line-begun phase program begun call calls lines =
    let next : begun + 1 ≡ suc begun = omega arith in
    ap (λ (n : ℕ). line_of program n) next ∙ line-in (slice_get program.items begun)
    (plan phase call) (plan-there phase program begun call calls lines)

pub later-lines : (phase : ℕ) (program : Vec Planned Global) (begun : ℕ) (call : WrittenCall)
    (calls : List WrittenCall) → AreLines program begun (map (plan phase) (call ∷ calls)) →
    AreLines program (begun + 1) (map (plan phase) calls)
later-lines phase program begun call calls lines = record {
  before = lines.before ++ plan phase call ∷ [];
  rest = lines.rest;
  are = lines.are ∙ sym (append_assoc lines.before (plan phase call ∷ []) (map (plan phase) calls ++
      lines.rest));
  count = omega (arith, length-append lines.before (plan phase call ∷ []), lines.count);
}

-- a turn that starts the next line
pub turn-by-line : (found : Past) (phase p : ℕ) (progress : Progress) (program : Vec Planned Global)
    (step : Step) (given : List ℕ) (scene : Scene) → open_wait found p ≡ None →
    IsNext phase program progress.begun step given →
    after_step (scene_of found progress) p given step ≡ Some scene →
    after_turn found phase p progress program ≡ Some (turned 1 progress scene)
turn-by-line found phase p progress program step given scene free next goes = grind (arith, eq-eqb)

-- a turn of a process that waits
pub turn-by-collect : (found : Past) (phase p : ℕ) (progress : Progress)
    (program : Vec Planned Global) (wait : ℕ) (scene : Scene) → open_wait found p ≡ Some wait →
    after_call (scene_of found progress) p Collect [] ≡ Some scene →
    after_turn found phase p progress program ≡ Some (turned 0 progress scene)
turn-by-collect found phase p progress program wait scene waits goes = grind arith

-- a legal record is that of its call with its reply
pub call-goes : (found : Past) (p : ℕ) (call : Call) (given : List ℕ) (reply : Reply)
    (progress : Progress) → IsLegalNext found (recorded p call given reply) →
    after_call (scene_of found progress) p call given ≡
    Some (record {
      past = recorded p call given reply ∷ found;
      text = progress.text ++
          said (recorded p call given reply ∷ found) p reply;
    })
call-goes found p call given reply progress legal = grind (arith, call-of-legal, reply-by-payload)
