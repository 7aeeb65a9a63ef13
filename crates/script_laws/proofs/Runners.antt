-- Processes that go through a phase, each along its course, as a stage of the machine.
use Rattle.std.proofs.Common.{◌≡◌, ℕ, zero, suc, ◌+◌, ◌<◌, List, [], ◌∷◌, length, map, Some, slice_get, slice_set, refl, ap, ◌∙◌, arith, Vec, Global}
use Rattle.std.proofs.lemmas.Bool.Decides.{nat_tests}
use Rattle.std.proofs.lemmas.List.{map-set}
use Rattle.std.proofs.lemmas.Option.{slice_get_within, slice_get-map}
use Rattle.mq_model.specs.Record.{Past}
use Rattle.script_orders.specs.Progress.{Progress}
use Rattle.script_orders.specs.Stage.{Stage, next_stage}
use Rattle.script_orders.specs.Turns.{Turned, after_turn}
use Rattle.script_orders.specs.declared.plan.Planned.{Planned}
use Rattle.script_orders.proofs.Turning.{turn_of-is}
use Rattle.script_laws.proofs.Course.{Move, Course}

-- a process with its lines, its progress, its progress at the end of the phase, and its moves until
-- then
pub record Runner : Type 0 where
  pub program : Vec Planned Global
  pub seat : Progress
  pub end : Progress
  pub moves : List Move

-- what does not change in a play: the number of phases, the bytes of the script, and the journal
-- before all phases
pub record Frame : Type 0 where
  pub phases : ℕ
  pub script : List ℕ
  pub start : Past

abbrev pub programs_in : List Runner → List (Vec Planned Global)
programs_in runners = map (λ (r : Runner). r.program) runners

abbrev pub seats_in : List Runner → List Progress
seats_in runners = map (λ (r : Runner). r.seat) runners

abbrev pub ends_in : List Runner → List Progress
ends_in runners = map (λ (r : Runner). r.end) runners

-- process p is at index p - 1
abbrev pub staged : Frame → ℕ → Past → List Runner → Stage
staged frame phase past runners =
    record {
      programs = programs_in runners;
      phases = frame.phases;
      script = frame.script;
      start = frame.start;
      phase = phase;
      past = past;
      seats = seats_in runners;
    }

abbrev pub gone : Runner → Progress → List Move → Runner
gone r seat moves = record { program = r.program; seat = seat; end = r.end; moves = moves }

-- each is on its course from this journal to the other
abbrev pub AreOnCourse : ℕ → Past → Past → List Runner → Type 0
AreOnCourse phase to past runners =
    (i : ℕ) (r : Runner) → slice_get runners i ≡ Some r →
    Course (i + 1) phase r.program to r.end r.moves past r.seat

pub there-is : {A : Type 0} (xs : List A) (i : ℕ) → i < length xs →
    (x : A) × (slice_get xs i ≡ Some x)
there-is [] i below = let k : ⊥ = omega (arith, below) in absurd k
there-is (x ∷ xs) zero below = (x, refl)
there-is (x ∷ xs) (suc i) below = there-is xs i (omega (arith, below))

pub get-set-here : {A : Type 0} (xs : List A) (i : ℕ) (y x : A) →
    slice_get (slice_set xs i y) i ≡ Some x → x ≡ y
get-set-here (z ∷ xs) (suc i) y x h = get-set-here xs i y x h
get-set-here xs i y x h = cc

-- replacing an element by one with the same value under f does not change the map
pub map-set-same : {A B : Type 0} (f : A → B) (xs : List A) (i : ℕ) (x y : A) →
    slice_get xs i ≡ Some x → f y ≡ f x → map f (slice_set xs i y) ≡ map f xs
map-set-same f [] i x y h e = refl
map-set-same {A} {B} f (z ∷ xs) zero x y h e = grind arith
map-set-same {A} {B} f (z ∷ xs) (suc i) x y h e = ap (λ (l : List B). f z ∷ l)
    (map-set-same f xs i x y h e)

pub map-agree : {A B : Type 0} (f g : A → B) (xs : List A) →
    ((i : ℕ) (x : A) → slice_get xs i ≡ Some x → f x ≡ g x) → map f xs ≡ map g xs
map-agree f g [] h = refl
map-agree {A} {B} f g (x ∷ xs) h =
    ap (λ (b : B). b ∷ map f xs) (h zero x refl) ∙ ap (λ (l : List B). g x ∷ l)
    (map-agree f g xs (λ i y has. h (suc i) y has))

-- one process makes its move
pub goes-on : (frame : Frame) (phase : ℕ) (past : Past) (runners : List Runner) (i : ℕ) (r : Runner)
    (turned : Turned) (moves : List Move) → slice_get runners i ≡ Some r →
    after_turn past phase (i + 1) r.seat r.program ≡ Some turned →
    next_stage (staged frame phase past runners) i ≡
    Some (staged frame phase turned.past (slice_set runners i (gone r turned.progress moves)))
goes-on frame phase past runners i r turned moves here goes =
    grind (arith, slice_get-map, turn_of-is, slice_get_within, nat_tests, map-set-same, map-set)
