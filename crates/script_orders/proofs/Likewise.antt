-- Equivalent stages remain equivalent under each choice.
use Rattle.std.proofs.lemmas.Bool.Decides.{nat_tests}
use Rattle.std.proofs.Common.{◌≡◌, ℕ, zero, suc, ◌+◌, ◌≤◌, ◌<◌, ◌==◌, Bool, true, false, ◌&&◌, ◌||◌, List, [], ◌∷◌, ◌++◌, length, slice_set, eqb-true, Option, Some, None, is_some, is_none, slice_get, refl, ap, sym, ◌∙◌, subst, arith, if◌then◌else◌, Vec, not, drop, Global}
use Rattle.std.specs.List.{list_any}
use Rattle.std.specs.Option.{option_and_then, option_map, unwrap_or}
use Rattle.std.proofs.lemmas.Option.{slice_get_within}
use Rattle.std.proofs.lemmas.Bool.{and_parts, eqb-false}
use Rattle.mq_model.proofs.Places.{split}
use Rattle.mq_model.specs.Messages.{is_receive}
use Rattle.mq_model.specs.Legality.{Legal}
use Rattle.mq_model.specs.Record.{Past, Process}
use Rattle.mq_model.specs.Waits.{open_wait}
use Rattle.mq_model.specs.Legality.{may_call, reply_to}
use Rattle.mq_model.specs.declared.entries.Call.{Call}
use Rattle.mq_model.specs.declared.entries.Call.TheVariants.{MqClose, Collect}
use Rattle.mq_state.specs.Trails.{can_call, record_of_call}
use Rattle.mq_equivalence.specs.Views.{Message}
use Rattle.mq_equivalence.proofs.Codes.{IsDecodable, decodable-listed, decodable-message}
use Rattle.mq_equivalence.proofs.Alike.{refused-alike}
use Rattle.mq_equivalence.proofs.Calls.{can-alike}
use Rattle.mq_equivalence.specs.Equivalence.{Agree, may_come}
use Rattle.mq_equivalence.specs.Structure.{extended}
use Rattle.mq_equivalence.proofs.SameKeys.{same-key}
use Rattle.mq_equivalence.proofs.Runs.{steps-agree}
use Rattle.schedules.specs.Likeness.{AreBothAlike}
use Rattle.schedules.specs.Schedules.{IsReached, after}
use Rattle.schedules.proofs.Covering.{reach-start}
use Rattle.mq_state.proofs.Trails.{legal-of}
use Rattle.script_orders.specs.Progress.{Progress}
use Rattle.script_orders.specs.Said.{said}
use Rattle.script_orders.specs.Scenes.{Scene, after_call, after_step, close_first, close_held}
use Rattle.script_orders.specs.Turns.{Turned, after_line, after_turn, scene_of, turned}
use Rattle.script_orders.specs.Stage.{Stage, first_stage, in_next_phase, next_stage, none_can_turn, seats_cleared, stands_still, observed, turn_of, waits, with_turn}
use Rattle.script_orders.specs.StageLaws.{next-first}
use Rattle.script_orders.specs.Likeness.{AreStagesAlike, IsStageKey, is_to_come, one_receives, receives, receives_from, seat_code, step_receives, will_receive, with_past}
use Rattle.script_orders.specs.declared.plan.Planned.{Planned}
use Rattle.script_orders.specs.declared.plan.Step.{Step}
use Rattle.script_orders.specs.declared.plan.Step.TheVariants as steps
use Rattle.script_orders.proofs.Making.{set-cases}
use Rattle.script_orders.proofs.Legality.{Free, all-free, are-legal, close-can}
use Rattle.script_orders.proofs.Printing.{call-said, shape-same}
use Rattle.schedules.proofs.Removing.{is-none}

-- a call ------------------------------------------------------------------------------------------

record ScenesAlike (received : Bool) (a b : Scene) : Type 0 where
  text : b.text ≡ a.text
  past : Agree received a.past b.past

pub may-of : (past : Past) (p : Process) (call : Call) (given : List ℕ) →
    can_call past p call given ≡ true → may_call past p call ≡ true
may-of past p call given can = let one = and_parts _ _ can in let two = and_parts _ _ one.0 in two.1

call-alike : {received : Bool} (x y : Past) (text : List ℕ) (p : Process) (call : Call)
    (given : List ℕ) → may_come received call ≡ true → Agree received x y →
    AreBothAlike (ScenesAlike received) (after_call (record { past = x; text = text }) p call given)
    (after_call (record { past = y; text = text }) p call given)
call-alike {received} x y text p call given may alike =
    let to = alike.to in
    let steps = steps-agree to x y alike.equivalent p call given may in
    let longer : Past → Past = λ past. record_of_call past p call given ∷ past in
    let scene : Past → Past →
    Scene = λ past new. record {
      past = new;
      text = text ++ said new p (reply_to past p call given);
    } in
    let after : Past → Bool →
    Option Scene = λ past b. option_map (scene past) (if b then Some (longer past) else None) in
    let goes : (b c : Bool) → can_call x p call given ≡ b → can_call y p call given ≡ c → c ≡ b →
    AreBothAlike (ScenesAlike received) (after x b) (after y c) =
    λ (b c : Bool). elim b as (λ b. can_call x p call given ≡ b → can_call y p call given ≡ c → c ≡
    b → AreBothAlike (ScenesAlike received) (after x b) (after y c)) [
      | true ↦ (elim c as (λ c. can_call x p call given ≡ true → can_call y p call given ≡ c → c ≡
          true → AreBothAlike (ScenesAlike received) (after x true) (after y c)) [
            | true ↦ (λ can_x can_y e. record {
              text = ap (λ (line : List ℕ). text ++ line)
                  (call-said to x y p call given alike.equivalent (may-of x p call given can_x)
                  (may-of y p call given can_y) steps);
              past = record {
                to = extended to (length x) (length y);
                equivalent = steps.next (legal-of x p call given can_x);
              };
            })
            | false ↦ (λ can_x can_y e. absurd (cc))
          ])
      | false ↦ grind (arith, nat_tests)
    ]
    in
    goes (can_call x p call given) (can_call y p call given) refl refl
    (can-alike x y p call given steps.turn (shape-same to x y p call given steps))

-- an exit -----------------------------------------------------------------------------------------

may-other : (received : Bool) (call : Call) → is_receive call ≡ false →
    may_come received call ≡ true
may-other received call e = grind arith

close-alike : {received : Bool} (x y : Past) (p d : ℕ) → (1 ≤ p) × (p ≤ 32) → Free x p → Free y p →
    Agree received x y → Agree received (close_held x p d) (close_held y p d)
close-alike {received} x y p d bounds free_x free_y alike =
    let to = alike.to in
    let steps = steps-agree to x y alike.equivalent p (MqClose d) []
    (may-other received (MqClose d) refl) in
    grind (arith, nat_tests, refused-alike, shape-same, legal-of, close-can)

closes-alike : {received : Bool} (x y : Past) (p n : ℕ) → (1 ≤ p) × (p ≤ 32) → Free x p → Free y p →
    Agree received x y → Agree received (close_first x p n) (close_first y p n)
closes-alike x y p zero bounds free_x free_y alike = alike
closes-alike x y p (suc n) bounds free_x free_y alike = grind (
  arith,
  close-alike,
  all-free,
  closes-alike x y p n bounds free_x free_y alike,
)

-- a step of a process -----------------------------------------------------------------------------

step-alike : {received : Bool} (x y : Past) (text : List ℕ) (p : Process) (given : List ℕ)
    (step : Step) → (1 ≤ p) × (p ≤ 32) → Free x p → Free y p →
    (received || not (step_receives step)) ≡ true → Agree received x y →
    AreBothAlike (ScenesAlike received) (after_step (record { past = x; text = text }) p given step)
    (after_step (record { past = y; text = text }) p given step)
step-alike x y text p given (steps.Call call) bounds free_x free_y may alike =
    call-alike x y text p call given may alike
step-alike x y text p given (steps.Refusal fault) bounds free_x free_y may alike =
    record { text = refl; past = alike }
step-alike x y text p given steps.Exit bounds free_x free_y may alike = record {
  text = refl;
  past = closes-alike x y p 16 bounds free_x free_y alike;
}

record TurnsAlike (received : Bool) (from : ℕ) (t u : Turned) : Type 0 where
  progress : u.progress ≡ t.progress
  past : Agree received t.past u.past
  later : from ≤ t.progress.begun

turned-alike : (received : Bool) (lines : ℕ) (progress : Progress) (o q : Option Scene) →
    AreBothAlike (ScenesAlike received) o q →
    AreBothAlike (TurnsAlike received progress.begun) (option_map (turned lines progress) o)
    (option_map (turned lines progress) q)
turned-alike received lines progress o q alike = grind arith

turn-alike : {received : Bool} (x y : Past) (phase : ℕ) (p : Process) (progress : Progress)
    (program : Vec Planned Global) → (1 ≤ p) × (p ≤ 32) →
    ((next : Planned) → slice_get program.items progress.begun ≡ Some next →
    (received || not (step_receives next.step)) ≡ true) → Agree received x y →
    AreBothAlike (TurnsAlike received progress.begun) (after_turn x phase p progress program)
    (after_turn y phase p progress program)
turn-alike {received} x y phase p progress program bounds may alike =
    let collects : Past →
    Option Turned = λ past. option_map (turned 0 progress)
    (after_call (scene_of past progress) p Collect []) in
    let begins : Past →
    Option Turned = λ past. option_map (turned 1 progress)
    (option_and_then (after_line past phase p progress)
    (slice_get program.items progress.begun)) in
    let goes : (b : Bool) → is_some (open_wait x p) ≡ b → is_some (open_wait y p) ≡ b →
    AreBothAlike (TurnsAlike received progress.begun) (if b then collects x else begins x)
    (if b then collects y else begins y) =
    λ (b : Bool). elim b as (λ b. is_some (open_wait x p) ≡ b → is_some (open_wait y p) ≡ b →
    AreBothAlike (TurnsAlike received progress.begun) (if b then collects x else begins x)
    (if b then collects y else begins y)) [
      | true ↦ (λ e f. turned-alike received 0 progress (after_call (scene_of x progress) p Collect
          []) (after_call (scene_of y progress) p Collect [])
          (call-alike x y progress.text p Collect [] (may-other received Collect refl) alike))
      | false ↦ grind (arith, nat_tests, Free, is-none, turned-alike, step-alike)
    ]
    in
    let here : is_some (open_wait y p) ≡ is_some (open_wait x p) = alike.equivalent.waits p in
    let P : Bool → Type 0 = λ c. AreBothAlike (TurnsAlike received progress.begun)
    (if is_some (open_wait x p) then collects x else begins x)
    (if c then collects y else begins y) in
    subst P (sym here) (goes (is_some (open_wait x p)) refl here)

-- a step of the play ------------------------------------------------------------------------------

-- receives to come
any-here : (program : List Planned) (n : ℕ) (next : Planned) → slice_get program n ≡ Some next →
    step_receives next.step ≡ true → receives_from program n ≡ true
any-here [] n next e r = absurd (cc)
any-here (planned ∷ program) zero next e r = let same : planned ≡ next =
    cc in rw (ap (λ (l : Planned). step_receives l.step) same ∙ r) refl
any-here (planned ∷ program) (suc n) next e r = any-here program n next e r

any-later : (is_such : Planned → Bool) (program : List Planned) (m n : ℕ) → m ≤ n →
    list_any is_such (drop n program) ≡ true → list_any is_such (drop m program) ≡ true
any-later is_such [] m zero le r = absurd (cc)
any-later is_such [] m (suc n) le r = absurd (cc)
any-later is_such (planned ∷ program) zero zero le r = r
any-later is_such (planned ∷ program) zero (suc n) le r = split (is_such planned) (λ t. rw t refl)
    (λ f. rw f (any-later is_such program zero n (omega arith) r))
any-later is_such (planned ∷ program) (suc m) zero le r = absurd (omega (arith, le))
any-later is_such (planned ∷ program) (suc m) (suc n) le r = any-later is_such program m n
    (omega (arith, le)) r

one-of : (s : Stage) (n index : ℕ) → index < n → will_receive s index ≡ true →
    one_receives s n ≡ true
one-of s zero index lt e = absurd (omega (arith, lt))
one-of s (suc n) index lt e = split (index == n)
    (λ t. let here : will_receive s n ≡ true = subst (λ (k : ℕ). will_receive s k ≡ true)
    (eqb-true index n t) e in by (one_receives s n) here)
    (λ f. let ne : index ≡ n → ⊥ = eqb-false index n f in let before : one_receives s n ≡
    true = one-of s n index (omega (arith, lt, ne)) e in rw before refl)
  where
    by : (b : Bool) → will_receive s n ≡ true → (b || will_receive s n) ≡ true
    by true h = refl
    by false h = h

-- if no receive is to come at one stage, none is at another where no process has more to do
fewer-receive : (s t : Stage) (n : ℕ) →
    ((k : ℕ) → will_receive t k ≡ true → will_receive s k ≡ true) → one_receives s n ≡ false →
    one_receives t n ≡ false
fewer-receive s t zero fewer e = refl
fewer-receive s t (suc n) fewer e =
    let before : one_receives s n ≡ false = split (one_receives s n) (λ y. let bad : true ≡
    false = rw y at e in absurd (cc)) (λ f. f) in
    let here : will_receive s n ≡ false = rw before at e in
    let rest = fewer-receive s t n fewer before in
    rw rest (split (will_receive t n) (λ y. let bad : true ≡ false = sym (fewer n y) ∙ here in
    absurd (cc)) (λ f. f))

pub weaken : (received later : Bool) (x y : Past) → (received ≡ false → later ≡ false) →
    Agree received x y → Agree later x y
weaken received later x y less alike = grind arith

-- the line that a process makes next
may-next : (s : Stage) (index : ℕ) (program : Vec Planned Global) (seat : Progress) →
    index < length s.programs → slice_get s.programs index ≡ Some program →
    slice_get s.seats index ≡ Some seat →
    (next : Planned) → slice_get program.items seat.begun ≡ Some next →
    (receives s || not (step_receives next.step)) ≡ true
may-next s index program seat lt at sits next is = split (step_receives next.step)
    (λ t. let here : will_receive s index ≡ true = rw (at, sits)
    (any-here program.items seat.begun next is t) in
    let all : receives s ≡ true = one-of s (length s.programs) index lt here in
    rw all refl)
    (λ f. ap (λ (b : Bool). receives s || not b) f ∙ either-true (receives s))
  where
    either-true : (b : Bool) → (b || true) ≡ true
    either-true true = refl
    either-true false = refl

-- how many lines the process at an index has begun
abbrev pub begun_at : Stage → ℕ → ℕ
begun_at s index = unwrap_or (option_map (λ (seat : Progress). seat.begun)
    (slice_get s.seats index)) 0

turn_of-alike : (s : Stage) (past : Past) (index : ℕ) → length s.programs ≤ 32 →
    Agree (receives s) s.past past → AreBothAlike (TurnsAlike (receives s) (begun_at s index))
    (turn_of s index) (turn_of (with_past s past) index)
turn_of-alike s past index few alike =
    let by_seat : Past → Vec Planned Global → Option Progress →
    Option Turned = λ at program o. option_and_then (λ (seat : Progress). after_turn at s.phase
    (index + 1) seat program) o in
    let by_program : Past → Option (Vec Planned Global) →
    Option Turned = λ at o. option_and_then (λ (program : Vec Planned Global). by_seat at
    program (slice_get s.seats index)) o in
    let sits : (program : Vec Planned Global) → slice_get s.programs index ≡ Some program →
    (o : Option Progress) → slice_get s.seats index ≡ o →
    AreBothAlike
    (TurnsAlike (receives s) (unwrap_or (option_map (λ (seat : Progress). seat.begun) o) 0))
    (by_seat s.past program o) (by_seat past program o) =
    λ program is. λ (o : Option Progress). elim o as (λ o. slice_get s.seats index ≡ o →
    AreBothAlike
    (TurnsAlike (receives s) (unwrap_or (option_map (λ (seat : Progress). seat.begun) o) 0))
    (by_seat s.past program o) (by_seat past program o)) [
      | None ↦ (λ e. tt)
      | Some seat ↦ (λ e.
          let inside : index < length s.programs = slice_get_within s.programs index program is in
          turn-alike s.past past s.phase (index + 1) seat program
          (omega arith, omega (arith, inside, few)) (may-next s index program seat inside is e)
          alike)
    ]
    in
    let goes : (o : Option (Vec Planned Global)) → slice_get s.programs index ≡ o →
    AreBothAlike (TurnsAlike (receives s) (begun_at s index)) (by_program s.past o)
    (by_program past o) =
    λ (o : Option (Vec Planned Global)). elim o as (λ o. slice_get s.programs index ≡ o →
    AreBothAlike (TurnsAlike (receives s) (begun_at s index)) (by_program s.past o)
    (by_program past o))
    [ None ↦ (λ e. tt) | Some program ↦ (λ e. sits program e (slice_get s.seats index) refl) ]
    in
    goes (slice_get s.programs index) refl

both-none : (received : Bool) (from : ℕ) (o q : Option Turned) →
    AreBothAlike (TurnsAlike received from) o q → is_none q ≡ is_none o
both-none received from o q alike = grind arith

none-alike : (s : Stage) (past : Past) (n : ℕ) → length s.programs ≤ 32 →
    Agree (receives s) s.past past → none_can_turn (with_past s past) n ≡ none_can_turn s n
none-alike s past zero few alike = refl
none-alike s past (suc n) few alike =
    ap (λ (b : Bool). b && is_none (turn_of (with_past s past) n)) (none-alike s past n few alike)
    ∙ ap (λ (b : Bool). none_can_turn s n && b) (both-none (receives s) (begun_at s n) (turn_of s n)
    (turn_of (with_past s past) n) (turn_of-alike s past n few alike))

observed-alike : {received : Bool} (s : Stage) (past : Past) → Agree received s.past past →
    observed (with_past s past) ≡ observed s
observed-alike s past alike = grind arith

-- a choice ----------------------------------------------------------------------------------------

set-none : {A : Type 0} (xs : List A) (c i : ℕ) (t : A) → slice_get xs i ≡ None →
    slice_get (slice_set xs c t) i ≡ None
set-none [] c i t e = refl
set-none (x ∷ xs) zero (suc i) t e = e
set-none (x ∷ xs) (suc c) (suc i) t e = set-none xs c i t e
set-none (x ∷ xs) _ zero t e = absurd (cc)

-- what the process at an index has to come is less after its turn
pub begun-set : (is_such : Planned → Bool) (s : Stage) (choice k : ℕ) (t : Turned) (from : ℕ) →
    from ≡ begun_at s choice → from ≤ t.progress.begun →
    is_to_come is_such (with_turn s choice t) k ≡ true → is_to_come is_such s k ≡ true
begun-set is_such s choice k t from at later h = grind (arith, set-cases, any-later, set-none)

turns-next : (s : Stage) (past : Past) (choice : ℕ) (o q : Option Turned) → length s.programs ≤ 32 →
    AreBothAlike (TurnsAlike (receives s) (begun_at s choice)) o q →
    AreBothAlike AreStagesAlike (option_map (with_turn s choice) o)
    (option_map (with_turn (with_past s past) choice) q)
turns-next s past choice None None few alike = tt
turns-next s past choice (Some t) (Some u) few alike = record {
  few = few;
  differ = ap (λ (progress : Progress). with_turn s choice
      (let next : Turned = record { past = u.past; progress = progress } in next)) alike.progress;
  journals = weaken (receives s) (receives (with_turn s choice t)) t.past u.past
      (fewer-receive s (with_turn s choice t) (length s.programs)
      (λ k h. begun-set (λ planned. step_receives planned.step) s choice k t (begun_at s choice)
      refl alike.later h)) alike.past;
}
turns-next s past choice _ _ few alike = absurd alike

-- a new phase has the same lines to come
cleared-get : (seats : List Progress) (k : ℕ) →
    option_map (λ (seat : Progress). seat.begun) (slice_get (seats_cleared seats) k) ≡
    option_map (λ (seat : Progress). seat.begun) (slice_get seats k)
cleared-get (seat ∷ seats) (suc k) = cleared-get seats k
cleared-get _ _ = refl

will-begun : (program : Vec Planned Global) (o : Option Progress) →
    unwrap_or (option_map (λ (seat : Progress). receives_from program.items seat.begun) o) false ≡
    unwrap_or (option_map (receives_from program.items)
    (option_map (λ (seat : Progress). seat.begun) o)) false
will-begun program o = grind arith

phase-receives : (s : Stage) (k : ℕ) → will_receive (in_next_phase s) k ≡ will_receive s k
phase-receives s k = by (slice_get s.programs k)
  where
    by : (o : Option (Vec Planned Global)) →
        unwrap_or (option_and_then (λ (program : Vec Planned Global). option_map
        (λ (seat : Progress). receives_from program.items seat.begun)
        (slice_get (seats_cleared s.seats) k)) o) false
        ≡ unwrap_or (option_and_then (λ (program : Vec Planned Global). option_map
        (λ (seat : Progress). receives_from program.items seat.begun) (slice_get s.seats k)) o)
        false
    by None = refl
    by (Some program) =
        will-begun program (slice_get (seats_cleared s.seats) k)
        ∙ ap (λ (o : Option ℕ). unwrap_or (option_map (receives_from program.items) o) false)
        (cleared-get s.seats k)
        ∙ sym (will-begun program (slice_get s.seats k))

past-next : (s : Stage) (past : Past) (choice : ℕ) → length s.programs ≤ 32 →
    Agree (receives s) s.past past →
    AreBothAlike AreStagesAlike (next_stage s choice) (next_stage (with_past s past) choice)
past-next s past choice few alike = grind (
  arith,
  turns-next,
  turn_of-alike,
  weaken,
  fewer-receive,
  phase-receives,
  none-alike,
)

-- the laws of keyed machines ----------------------------------------------------------------------

pub stages-next : (x y : Stage) (choice : ℕ) → AreStagesAlike x y →
    AreBothAlike AreStagesAlike (next_stage x choice) (next_stage y choice)
stages-next x y choice alike = grind (arith, past-next)

pub stages-goal : (x y : Stage) → AreStagesAlike x y → stands_still x ≡ stands_still y
stages-goal x y alike = grind (arith, none-alike)

pub stages-observed : (x y : Stage) → AreStagesAlike x y → observed x ≡ observed y
stages-observed x y alike = sym (observed-alike x y.past alike.journals) ∙ ap observed
    (sym alike.differ)

reach-first : (schedule : List ℕ) (s x : Stage) → after next_stage schedule s ≡ Some x →
    first_stage x ≡ first_stage s
reach-first schedule s x h = reach-start next_stage first_stage next-first schedule s x h

decodable-seat : IsDecodable seat_code
decodable-seat a b u v e =
    let message : Progress →
    Message = λ (q : Progress). record { prio = q.begun; bytes = q.text } in
    let progress : Message →
    Progress = λ (m : Message). record { begun = m.prio; text = m.bytes } in
    let same = decodable-message (message a) (message b) u v e in
    (ap progress same.0, same.1)

-- stages that are reached from one, and have one key
pub stages-key : (from x y : Stage) (key : List ℕ) → Legal from.start →
    IsReached next_stage (first_stage from) x → IsReached next_stage (first_stage from) y →
    IsStageKey x key → IsStageKey y key → AreStagesAlike x y
stages-key from x y key legal to_x to_y key_x key_y =
    let first_x : first_stage x ≡ first_stage from =
    reach-first to_x.0 (first_stage from) x to_x.1 in
    let first_y : first_stage y ≡ first_stage from =
    reach-first to_y.0 (first_stage from) y to_y.1 in
    grind (arith, nat_tests, decodable-listed, decodable-seat, same-key, are-legal)
