-- The journal after each schedule of a play is legal.
use Rattle.std.proofs.Common.{◌≡◌, ℕ, zero, suc, ◌+◌, ◌≤◌, ◌<◌, ◌==◌, Bool, true, false, ◌&&◌, List, [], ◌∷◌, ◌++◌, length, Option, Some, None, is_some, slice_get, refl, ap, subst, arith, if◌then◌else◌, Vec, nat_lt, not, Global, eq-eqb}
use Rattle.std.specs.Option.{option_and_then, option_map}
use Rattle.std.proofs.lemmas.Option.{slice_get_within}
use Rattle.mq_model.specs.Record.{Past, Process}
use Rattle.mq_model.specs.Waits.{open_wait}
use Rattle.mq_model.specs.Legality.{Legal}
use Rattle.mq_model.specs.declared.entries.Call.{Call}
use Rattle.mq_model.specs.declared.entries.Call.TheVariants.{MqClose, Collect}
use Rattle.script_text.specs.Replies.{reply_line}
use Rattle.script_text.specs.declared.reply.Outcome.TheVariants as outcomes
use Rattle.mq_state.specs.Trails.{can_call}
use Rattle.mq_state.proofs.Trails.{legal-of}
use Rattle.schedules.specs.Schedules.{after}
use Rattle.script_orders.specs.Progress.{Progress}
use Rattle.script_orders.specs.Scenes.{Scene, after_call, after_step, close_first, close_held}
use Rattle.script_orders.specs.Turns.{Turned, after_line, after_turn, scene_of, turned}
use Rattle.script_orders.specs.Stage.{Stage, after_phase, first_stage, in_next_phase, next_stage, stands_still, turn_of, waits, with_turn}
use Rattle.script_orders.specs.StageLaws.{next-first}
use Rattle.script_orders.specs.Orders.{AreLegal}
use Rattle.script_orders.specs.declared.plan.Planned.{Planned}
use Rattle.script_orders.specs.declared.plan.Step.{Step}
use Rattle.script_orders.specs.declared.plan.Step.TheVariants as steps
use Rattle.schedules.proofs.Removing.{is-none}

-- a call ------------------------------------------------------------------------------------------

call-scene-legal : (scene new : Scene) (p : Process) (call : Call) (given : List ℕ) →
    Legal scene.past → after_call scene p call given ≡ Some new → Legal new.past
call-scene-legal scene new p call given legal h = grind arith

-- an exit -----------------------------------------------------------------------------------------

pub record Free (past : Past) (p : Process) : Type 0 where
  pub legal : Legal past
  pub free : open_wait past p ≡ None

-- a process that does not wait may close
pub close-can : (past : Past) (p d : ℕ) → (1 ≤ p) × (p ≤ 32) → Free past p →
    can_call past p (MqClose d) [] ≡ true
close-can past p d bounds f = grind arith

close-free : (past : Past) (p d : ℕ) → (1 ≤ p) × (p ≤ 32) → Free past p →
    Free (close_held past p d) p
close-free past p d bounds f = grind (arith, close-can, eq-eqb, legal-of)

pub all-free : (past : Past) (p n : ℕ) → (1 ≤ p) × (p ≤ 32) → Free past p →
    Free (close_first past p n) p
all-free past p zero bounds f = f
all-free past p (suc n) bounds f = close-free (close_first past p n) p n bounds
    (all-free past p n bounds f)

-- a step of a process -----------------------------------------------------------------------------

step-legal : (scene new : Scene) (p : Process) (given : List ℕ) (step : Step) → (1 ≤ p) × (p ≤ 32) →
    Free scene.past p → after_step scene p given step ≡ Some new → Legal new.past
step-legal scene new p given (steps.Call call) bounds f h =
    call-scene-legal scene new p call given f.legal h
step-legal scene new p given (steps.Refusal fault) bounds f h = grind arith
step-legal scene new p given steps.Exit bounds f h =
    let next : Scene = record {
      past = close_first scene.past p 16;
      text = scene.text ++
          reply_line p outcomes.Done [];
    } in
    let e : next ≡ new = cc in
    let P : Scene → Type 0 = λ s. Legal s.past in
    subst P e (all-free scene.past p 16 bounds f).legal

turned-legal : (lines : ℕ) (progress : Progress) (o : Option Scene) (new : Turned) →
    ((s : Scene) → o ≡ Some s → Legal s.past) → option_map (turned lines progress) o ≡ Some new →
    Legal new.past
turned-legal lines progress o new legal h = grind arith

line-legal : (past : Past) (phase : ℕ) (p : Process) (progress : Progress) (new : Scene)
    (o : Option Planned) → (1 ≤ p) × (p ≤ 32) → Free past p →
    option_and_then (after_line past phase p progress) o ≡ Some new → Legal new.past
line-legal past phase p progress new None bounds f h = cc
line-legal past phase p progress new (Some next) bounds f h =
    let goes : (b : Bool) →
    (if b then after_step (scene_of past progress) p next.given.items next.step else None) ≡
    Some new → Legal new.past =
    λ (b : Bool). elim b as (λ b. (if b then after_step (scene_of past progress) p next.given.items
    next.step else None) ≡ Some new → Legal new.past) [
      | true ↦ (λ h. step-legal (scene_of past progress) new p next.given.items
          next.step bounds f h)
      | false ↦ (λ h. cc)
    ]
    in
    goes (next.phase == phase) h

turn-legal : (past : Past) (phase : ℕ) (p : Process) (progress : Progress)
    (program : Vec Planned Global) (new : Turned) → (1 ≤ p) × (p ≤ 32) → Legal past →
    after_turn past phase p progress program ≡ Some new → Legal new.past
turn-legal past phase p progress program new bounds legal h =
    let collects : Option Turned = option_map (turned 0 progress)
    (after_call (scene_of past progress) p Collect []) in
    let begins : Option Turned = option_map (turned 1 progress)
    (option_and_then (after_line past phase p progress)
    (slice_get program.items progress.begun)) in
    let goes : (b : Bool) → is_some (open_wait past p) ≡ b →
    (if b then collects else begins) ≡ Some new → Legal new.past =
    λ (b : Bool). elim b as (λ b. is_some (open_wait past p) ≡ b →
    (if b then collects else begins) ≡ Some new → Legal new.past) [
      | true ↦ (λ e h. turned-legal 0 progress (after_call (scene_of past progress) p Collect [])
          new (λ s step. call-scene-legal (scene_of past progress) s p Collect [] legal step) h)
      | false ↦ (λ e h.
          let f : Free past p = record { legal = legal; free = is-none (open_wait past p) e } in
          turned-legal 1 progress (option_and_then (after_line past phase p progress)
          (slice_get program.items progress.begun)) new
          (λ s step. line-legal past phase p progress s (slice_get program.items progress.begun)
          bounds f step) h)
    ]
    in
    goes (is_some (open_wait past p)) refl h

-- a step of the play ------------------------------------------------------------------------------

with-turn-legal : (x y : Stage) (choice : ℕ) (o : Option Turned) →
    ((t : Turned) → o ≡ Some t → Legal t.past) → option_map (with_turn x choice) o ≡ Some y →
    Legal y.past
with-turn-legal x y choice o legal h = grind arith

seat-legal : (x : Stage) (choice : ℕ) (program : Vec Planned Global) (t : Turned)
    (o : Option Progress) → choice < 32 → Legal x.past →
    option_and_then (λ (seat : Progress). after_turn x.past x.phase (choice + 1) seat program) o ≡
    Some t → Legal t.past
seat-legal x choice program t None below legal h = cc
seat-legal x choice program t (Some seat) below legal h =
    turn-legal x.past x.phase (choice + 1) seat program t (omega arith, omega (arith, below)) legal
    h

turn-of-legal : (x : Stage) (choice : ℕ) (t : Turned) (o : Option (Vec Planned Global)) →
    slice_get x.programs choice ≡ o → length x.programs ≤ 32 → Legal x.past →
    option_and_then (λ (program : Vec Planned Global). option_and_then
    (λ (seat : Progress). after_turn x.past x.phase (choice + 1) seat program)
    (slice_get x.seats choice)) o ≡ Some t → Legal t.past
turn-of-legal x choice t None has few legal h = cc
turn-of-legal x choice t (Some program) has few legal h =
    let inside : choice < length x.programs = slice_get_within x.programs choice program has in
    seat-legal x choice program t (slice_get x.seats choice) (omega (arith, inside, few)) legal h

phase-legal : (x y : Stage) (b : Bool) → Legal x.past →
    (if b then Some (in_next_phase x) else None) ≡ Some y → Legal y.past
phase-legal x y b legal h = grind arith

next-legal : (x y : Stage) (choice : ℕ) → length x.programs ≤ 32 → Legal x.past →
    next_stage x choice ≡ Some y → Legal y.past
next-legal x y choice few legal step =
    let goes : (b : Bool) →
    (if b then after_phase x else option_map (with_turn x choice) (turn_of x choice)) ≡ Some y →
    Legal y.past =
    λ (b : Bool). elim b as (λ b. (if b then after_phase x else option_map (with_turn x choice)
    (turn_of x choice)) ≡ Some y → Legal y.past) [
      | true ↦ (λ h. phase-legal x y (nat_lt (x.phase + 1) x.phases &&
          (stands_still x && not (waits x))) legal h)
      | false ↦ (λ h. with-turn-legal x y choice (turn_of x choice)
          (λ t is. turn-of-legal x choice t (slice_get x.programs choice) refl few legal is) h)
    ]
    in
    goes (choice == length x.programs) step

run-legal : (schedule : List ℕ) (x y : Stage) → length x.programs ≤ 32 → Legal x.past →
    after next_stage schedule x ≡ Some y → Legal y.past
run-legal [] x y few legal h = grind arith
run-legal (choice ∷ schedule) x y few legal h =
    let goes : (o : Option Stage) → next_stage x choice ≡ o →
    option_and_then (after next_stage schedule) o ≡ Some y → Legal y.past =
    λ (o : Option Stage). elim o as (λ o. next_stage x choice ≡ o → option_and_then
    (after next_stage schedule) o ≡ Some y → Legal y.past) [
      | None ↦ (λ e h. cc)
      | Some z ↦ (λ e h.
          let count : length z.programs ≡ length x.programs = ap (λ (s : Stage). length s.programs)
          (next-first x z choice e) in
          run-legal schedule z y (omega (arith, few, count)) (next-legal x z choice few legal e) h)
    ]
    in
    goes (next_stage x choice) refl h

pub are-legal : (s : Stage) → length s.programs ≤ 32 → Legal s.start → AreLegal (first_stage s)
are-legal s few legal = λ schedule to run. run-legal schedule (first_stage s) to few legal run
