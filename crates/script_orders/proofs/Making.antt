-- A process that neither waits nor can take a step has made all its lines up to the phase.
use Rattle.std.proofs.Common.{◌≡◌, ℕ, zero, suc, ◌+◌, ◌≤◌, ◌<◌, ◌==◌, ◌⊎◌, inl, inr, Bool, true, false, List, [], ◌∷◌, ◌++◌, length, map, Option, Some, None, is_some, slice_get, slice_set, refl, ap, sym, ◌∙◌, subst, arith, add-one, if◌then◌else◌, Vec, rules, ◌||◌, Global}
use Rattle.std.specs.Option.{option_and_then, option_map}
use Rattle.std.proofs.lemmas.Bool.{and_parts, eq-eqb, eqb-true}
use Rattle.std.proofs.lemmas.Bool.Decides.{nat_tests}
use Rattle.std.proofs.lemmas.List.{length-map}
use Rattle.std.proofs.lemmas.Option.{slice_get_within, slice_get-map}
use Rattle.text_io.specs.Words.{Word}
use Rattle.mq_model.specs.Record.{Past, Process}
use Rattle.mq_model.specs.Waits.{open_wait}
use Rattle.mq_model.specs.declared.entries.Deadline.{Deadline}
use Rattle.mq_model.specs.declared.entries.Call.{Call}
use Rattle.mq_model.specs.declared.entries.Call.TheVariants.{Collect}
use Rattle.script_text.specs.Script.{Whole, WrittenCall}
use Rattle.script_text.specs.declared.command.Command.{Command}
use Rattle.script_text.specs.declared.command.Command.TheVariants as command
use Rattle.mq_state.specs.Trails.{can_call}
use Rattle.schedules.specs.Schedules.{after}
use Rattle.script_orders.specs.Plans.{Plan, given_by, plan, plan_of, program_of, programs_of, step_by}
use Rattle.script_orders.specs.Progress.{Progress}
use Rattle.script_orders.specs.Scenes.{Scene, after_call, after_step}
use Rattle.script_orders.specs.Turns.{Turned, after_line, after_turn, scene_of, turned}
use Rattle.script_orders.specs.Stage.{Stage, in_next_phase, next_stage, one_waits, stands_still, turn_of, waits, with_turn}
use Rattle.script_orders.specs.Orders.{BeginsAfter, HasMade}
use Rattle.script_orders.specs.declared.plan.Planned.{Planned}
use Rattle.script_orders.specs.declared.plan.Step.{Step}
use Rattle.script_orders.specs.declared.plan.Step.TheVariants as steps
use Rattle.script_orders.proofs.Counting.{none_can_turn-false}
use Rattle.script_orders.proofs.Turning.{turn_of-is}
use Rattle.schedules.proofs.Removing.{length-pushed}

-- the lines of a script can be made ---------------------------------------------------------------

-- a process that does not wait can do it
abbrev IsMakeable : Step → List ℕ → Type 0
IsMakeable (steps.Call call) given = (past : Past) (p : Process) → (1 ≤ p) × (p ≤ 32) →
    open_wait past p ≡ None → can_call past p call given ≡ true
IsMakeable (steps.Refusal fault) given = Unit {0}
IsMakeable steps.Exit given = Unit {0}

sent : (b : Bool) (message : List ℕ) →
    (length (if b then [] else message) == (if b then 0 else length message)) ≡ true
sent b message = grind (arith, eq-eqb)

step-makeable : (now : Deadline) (c : Command Word) → IsMakeable (step_by now c) (given_by c)
step-makeable now c = grind (arith, sent)

-- lines whose phases do not fall, from a phase on, and that can be made
abbrev Good : ℕ → List Plan → Type 0
Good k [] = Unit {0}
Good k (x ∷ xs) = (k ≤ x.phase) × IsMakeable x.step x.given × Good x.phase xs

weaken : (k m : ℕ) (xs : List Plan) → k ≤ m → Good m xs → Good k xs
weaken k m [] le g = tt
weaken k m (x ∷ xs) le g = (omega (arith, g.0, le), g.1, g.2)

list-good : (k m : ℕ) (calls : List WrittenCall) (rest : List Plan) → k ≤ m → Good m rest →
    Good k (map (plan k) calls ++ rest)
list-good k m [] rest le g = weaken k m rest le g
list-good k m (c ∷ calls) rest le g = (
  omega arith,
  step-makeable c.moment c.command,
  list-good k m calls rest le g,
)

program-good : (k : ℕ) (phases : List (List WrittenCall)) (p : ℕ) → Good k (program_of k phases p)
program-good k [] p = tt
program-good k (calls ∷ phases) p = grind (arith, list-good, program-good (k + 1) phases p)

append-last : {A : Type 0} (xs : List A) (y : A) (i : ℕ) (x : A) →
    slice_get (xs ++ y ∷ []) i ≡ Some x → (slice_get xs i ≡ Some x) ⊎ (y ≡ x)
append-last [] y zero x h = inr cc
append-last [] y (suc i) x h = cc
append-last (z ∷ xs) y zero x h = inl h
append-last (z ∷ xs) y (suc i) x h = append-last xs y i x h

programs-good : (phases : List (List WrittenCall)) (n i : ℕ) (x : List Plan) →
    slice_get (programs_of phases n) i ≡ Some x → Good 0 x
programs-good phases zero i x h = cc
programs-good phases (suc n) i x h =
    elim (append-last (programs_of phases n) (program_of 0 phases (n + 1)) i x h) [
      | inl e ↦ programs-good phases n i x e
      | inr e ↦ subst (λ (y : List Plan). Good 0 y) e (program-good 0 phases (n + 1))
    ]

pub programs-count : (phases : List (List WrittenCall)) (n : ℕ) → length (programs_of phases n) ≡ n
programs-count phases zero = refl
programs-count phases (suc n) = length-pushed (programs_of phases n) (program_of 0 phases (n + 1)) ∙
    ap (λ (n : ℕ). suc n) (programs-count phases n)

good-at : (k : ℕ) (xs : List Plan) (i : ℕ) (x : Plan) → Good k xs → slice_get xs i ≡ Some x →
    (k ≤ x.phase) × IsMakeable x.step x.given
good-at k [] i x g h = cc
good-at k (y ∷ xs) zero x g h = grind arith
good-at k (y ∷ xs) (suc i) x g h = let rest = good-at y.phase xs i x g.2 h in
    (omega (arith, g.0, rest.0), rest.1)

good-next : (k : ℕ) (xs : List Plan) (i : ℕ) (x y : Plan) → Good k xs → slice_get xs i ≡ Some x →
    slice_get xs (suc i) ≡ Some y → x.phase ≤ y.phase
good-next k [] i x y g h next = cc
good-next k (z ∷ xs) zero x y g h next =
    let e : z ≡ x = cc in
    let P : Plan → Type 0 = λ w. w.phase ≤ y.phase in
    subst P e (good-at z.phase xs zero y g.2 next).0
good-next k (z ∷ xs) (suc i) x y g h next = good-next z.phase xs i x y g.2 h next

-- processes that can take a step
-- -------------------------------------------------------------------

abbrev GoodProgram : Vec Planned Global → Type 0
GoodProgram program = Good 0 (map plan_of program.items)

planned-at : (program : Vec Planned Global) (i : ℕ) (planned : Planned) →
    slice_get program.items i ≡ Some planned → slice_get (map plan_of program.items) i ≡
    Some (plan_of planned)
planned-at program i planned has = slice_get-map plan_of program.items i ∙
    ap (λ (o : Option Planned). option_map plan_of o) has

-- a process that does not wait, and whose next line is in the phase, can take a step
line-goes : (past : Past) (phase : ℕ) (p : Process) (progress : Progress)
    (program : Vec Planned Global) (planned : Planned) → (1 ≤ p) × (p ≤ 32) → GoodProgram program →
    open_wait past p ≡ None → slice_get program.items progress.begun ≡ Some planned →
    planned.phase ≡ phase → is_some (after_turn past phase p progress program) ≡ true
line-goes past phase p progress program planned bounds good free has is =
    let collects : Option Turned = option_map (turned 0 progress)
    (after_call (scene_of past progress) p Collect []) in
    let begins : Option Turned = option_map (turned 1 progress)
    (option_and_then (after_line past phase p progress)
    (slice_get program.items progress.begun)) in
    let makes = (good-at 0 (map plan_of program.items) progress.begun (plan_of planned) good
    (planned-at program progress.begun planned has)).1 in
    grind (arith, nat_tests, eq-eqb)

-- how far each process has come -------------------------------------------------------------------

-- the next line, if there is one, is of the phase or of a later one
abbrev ReadyAt : ℕ → Vec Planned Global → Progress → Type 0
ReadyAt phase program progress = (planned : Planned) → slice_get program.items progress.begun ≡
    Some planned → phase ≤ planned.phase

record Holds (s : Stage) : Type 0 where
  few : length s.programs ≤ 32
  good : (i : ℕ) (program : Vec Planned Global) → slice_get s.programs i ≡ Some program →
      GoodProgram program
  ready : (i : ℕ) (program : Vec Planned Global) (seat : Progress) →
      slice_get s.programs i ≡ Some program → slice_get s.seats i ≡ Some seat →
      ReadyAt s.phase program seat

turned-begun : (lines : ℕ) (progress : Progress) (o : Option Scene) (t : Turned) →
    option_map (turned lines progress) o ≡ Some t → t.progress.begun ≡ progress.begun + lines
turned-begun lines progress o t h = grind arith

record BegunLine (phase : ℕ) (o : Option Planned) : Type 0 where
  planned : Planned
  has : o ≡ Some planned
  is : planned.phase ≡ phase

begun-line : (past : Past) (phase : ℕ) (p : Process) (progress : Progress) (o : Option Planned)
    (t : Turned) →
    option_map (turned 1 progress) (option_and_then (after_line past phase p progress) o) ≡ Some t →
    BegunLine phase o
begun-line past phase p progress None t h = cc
begun-line past phase p progress (Some next) t h =
    let goes : (b : Bool) → (next.phase == phase) ≡ b →
    option_map (turned 1 progress) (if b then after_step (scene_of past progress) p
    next.given.items next.step else None) ≡ Some t → BegunLine phase (Some next) =
    λ (b : Bool). elim b as (λ b. (next.phase == phase) ≡ b → option_map (turned 1 progress)
    (if b then after_step (scene_of past progress) p next.given.items next.step else None) ≡
    Some t → BegunLine phase (Some next)) [
      | true ↦ (λ e h. record { planned = next; has = refl; is = eqb-true next.phase phase e })
      | false ↦ (λ e h. cc)
    ]
    in
    goes (next.phase == phase) refl h

turn-ready : (past : Past) (phase : ℕ) (p : Process) (progress : Progress)
    (program : Vec Planned Global) (t : Turned) → GoodProgram program →
    ReadyAt phase program progress → after_turn past phase p progress program ≡ Some t →
    ReadyAt phase program t.progress
turn-ready past phase p progress program t good ready h =
    let collects : Option Turned = option_map (turned 0 progress)
    (after_call (scene_of past progress) p Collect []) in
    let begins : Option Turned = option_map (turned 1 progress)
    (option_and_then (after_line past phase p progress)
    (slice_get program.items progress.begun)) in
    let goes : (b : Bool) → (if b then collects else begins) ≡ Some t →
    ReadyAt phase program t.progress =
    λ (b : Bool). elim b as (λ b. (if b then collects else begins) ≡ Some t →
    ReadyAt phase program t.progress) [
      | true ↦ grind (arith, nat_tests, turned-begun)
      | false ↦ (λ h. λ planned has.
          let count : t.progress.begun ≡ progress.begun + 1 = turned-begun 1 progress
          (option_and_then (after_line past phase p progress)
          (slice_get program.items progress.begun)) t h in
          let line = begun-line past phase p progress (slice_get program.items progress.begun) t h
          in
          let same : suc progress.begun ≡ t.progress.begun = sym (count ∙ add-one progress.begun) in
          let next = planned-at program (suc progress.begun) planned
          (ap (λ (n : ℕ). slice_get program.items n) same ∙ has) in
          let later = good-next 0 (map plan_of program.items) progress.begun (plan_of line.planned)
          (plan_of planned) good (planned-at program progress.begun line.planned line.has) next
          in
          omega (arith, later, line.is))
    ]
    in
    goes (is_some (open_wait past p)) h

-- a step of a process
pub set-cases : {A : Type 0} (xs : List A) (c i : ℕ) (t s : A) →
    slice_get (slice_set xs c t) i ≡ Some s → ((i ≡ c) × (s ≡ t)) ⊎ (slice_get xs i ≡ Some s)
set-cases [] c i t s h = inr cc
set-cases (x ∷ xs) zero zero t s h = inl (refl, cc)
set-cases (x ∷ xs) zero (suc i) t s h = inr h
set-cases (x ∷ xs) (suc c) zero t s h = inr h
set-cases (x ∷ xs) (suc c) (suc i) t s h = grind (arith, set-cases xs c i t s h)

-- the process at an index took a step
pub record Went (s : Stage) (choice : ℕ) (t : Turned) : Type 0 where
  pub program : Vec Planned Global
  pub seat : Progress
  pub has : slice_get s.programs choice ≡ Some program
  pub sits : slice_get s.seats choice ≡ Some seat
  pub goes : after_turn s.past s.phase (choice + 1) seat program ≡ Some t

went-seat : (s : Stage) (choice : ℕ) (t : Turned) (program : Vec Planned Global)
    (o : Option Progress) → slice_get s.programs choice ≡ Some program →
    slice_get s.seats choice ≡ o →
    option_and_then (λ (seat : Progress). after_turn s.past s.phase (choice + 1) seat program) o ≡
    Some t → Went s choice t
went-seat s choice t program None has sits h = cc
went-seat s choice t program (Some seat) has sits h = record {
  program = program;
  seat = seat;
  has = has;
  sits = sits;
  goes = h;
}

pub went-of : (s : Stage) (choice : ℕ) (t : Turned) (o : Option (Vec Planned Global)) →
    slice_get s.programs choice ≡ o →
    option_and_then (λ (program : Vec Planned Global). option_and_then
    (λ (seat : Progress). after_turn s.past s.phase (choice + 1) seat program)
    (slice_get s.seats choice)) o ≡ Some t → Went s choice t
went-of s choice t o has h = grind (arith, went-seat)

turn-holds : (x : Stage) (choice : ℕ) (t : Turned) → Holds x → Went x choice t →
    Holds (with_turn x choice t)
turn-holds x choice t holds went = grind (arith, set-cases, turn-ready)

-- the next phase
one-waits-none : (past : Past) (n i : ℕ) → i < n → one_waits past n ≡ false →
    open_wait past (i + 1) ≡ None
one-waits-none past zero i below h = let k : ⊥ = omega (arith, below) in absurd k
one-waits-none past (suc n) i below h =
    let split : (a b : Bool) → (a || b) ≡ false →
    (a ≡ false) × (b ≡ false) = λ (a : Bool) (b : Bool). elim a as (λ a. (a || b) ≡ false →
    (a ≡ false) × (b ≡ false)) [ true ↦ (λ h. cc) | false ↦ (λ h. (refl, h)) ] in
    let parts = split (one_waits past n) (is_some (open_wait past (n + 1))) h in
    let last : (o : Option ℕ) → is_some o ≡ false →
    o ≡ None = λ (o : Option ℕ). elim o as (λ o. is_some o ≡ false → o ≡ None) [
      | None ↦
          (λ h. refl)
      | Some w ↦ (λ h. cc)
    ] in
    let goes : (b : Bool) → (i == n) ≡ b →
    open_wait past (i + 1) ≡ None = λ (b : Bool). elim b as (λ b. (i == n) ≡ b → open_wait past
    (i + 1) ≡ None) [
      | true ↦ (λ e. let same : i ≡ n = eqb-true i n e in ap (λ (k : ℕ). open_wait past (k + 1))
          same ∙ last (open_wait past (n + 1)) parts.1)
      | false ↦ (λ e. one-waits-none past n i (grind (arith, nat_tests)) parts.0)
    ]
    in
    goes (i == n) refl

-- the next line of a process that neither waits nor can take a step is in a later phase
later-line : (s : Stage) (i : ℕ) (program : Vec Planned Global) (seat : Progress)
    (planned : Planned) → Holds s → slice_get s.programs i ≡ Some program →
    slice_get s.seats i ≡ Some seat → slice_get program.items seat.begun ≡ Some planned →
    is_some (turn_of s i) ≡ false → open_wait s.past (i + 1) ≡ None → s.phase < planned.phase
later-line s i program seat planned holds has sits next stands free =
    grind (arith, slice_get_within, eqb-true, line-goes, turn_of-is)

phase-holds : (x : Stage) → Holds x → stands_still x ≡ true → waits x ≡ false →
    Holds (in_next_phase x)
phase-holds x holds stands free = grind (
  arith,
  slice_get-map,
  slice_get_within,
  later-line,
  one-waits-none,
  none_can_turn-false,
)

with-turn-holds : (x y : Stage) (choice : ℕ) (o : Option Turned) → turn_of x choice ≡ o → Holds x →
    option_map (with_turn x choice) o ≡ Some y → Holds y
with-turn-holds x y choice None e holds h = cc
with-turn-holds x y choice (Some t) e holds h =
    let same : with_turn x choice t ≡ y = cc in
    subst (λ (s : Stage). Holds s) same (turn-holds x choice t holds
    (went-of x choice t (slice_get x.programs choice) refl e))

next-holds : (x y : Stage) (choice : ℕ) → Holds x → next_stage x choice ≡ Some y → Holds y
next-holds x y choice holds step = grind (arith, with-turn-holds, and_parts, phase-holds)

run-holds : (schedule : List ℕ) (x y : Stage) → Holds x → after next_stage schedule x ≡ Some y →
    Holds y
run-holds [] x y holds h = let e : x ≡ y = cc in subst (λ (s : Stage). Holds s) e holds
run-holds (choice ∷ schedule) x y holds h =
    let goes : (o : Option Stage) → next_stage x choice ≡ o →
    option_and_then (after next_stage schedule) o ≡ Some y → Holds y =
    λ (o : Option Stage). elim o as (λ o. next_stage x choice ≡ o → option_and_then
    (after next_stage schedule) o ≡ Some y → Holds y) [
      | None ↦ (λ e h. cc)
      | Some z ↦ (λ e h. run-holds schedule z y (next-holds x z choice holds e) h)
    ]
    in
    goes (next_stage x choice) refl h

begins-holds : {past : Past} (script : Whole) (s : Stage) → script.processes ≤ 32 →
    BeginsAfter past script s → Holds s
begins-holds script s few begins =
    let shown : Vec Planned Global → List Plan = λ program. map plan_of program.items in
    let count : length s.programs ≡ script.processes =
    sym (length-map s.programs shown) ∙ ap (λ (xs : List (List Plan)). length xs) begins.programs ∙
    programs-count script.phases script.processes
    in
    let start : s.phase ≡ 0 = ap (λ (t : Stage). t.phase) (sym begins.first) in
    record {
      few = omega (arith, count, few);
      good = λ i program has.
          let of_script : slice_get (programs_of script.phases script.processes) i ≡
          Some (shown program) =
          ap (λ (xs : List (List Plan)). slice_get xs i) (sym begins.programs) ∙
          slice_get-map shown s.programs i ∙
          ap (λ (o : Option (Vec Planned Global)). option_map shown o) has
          in
          programs-good script.phases script.processes i (shown program) of_script;
      ready = λ i program seat has sits. λ planned next. omega (arith, start);
    }

none-is : {A : Type 0} (o : Option A) → o ≡ None → is_some o ≡ false
none-is o h = ap (λ o. is_some o) h

pub has-made : {past : Past} (script : Whole) (from s : Stage) (schedule : List ℕ) (i : ℕ) →
    script.processes ≤ 32 → BeginsAfter past script from → after next_stage schedule from ≡ Some s →
    turn_of s i ≡ None → open_wait s.past (i + 1) ≡ None → HasMade s i
has-made script from s schedule i few begins run stands free =
    search (rules, run-holds, begins-holds, later-line, none-is)
