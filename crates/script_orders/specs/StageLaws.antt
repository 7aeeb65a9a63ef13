-- What holds of the stages of every play.
use Rattle.std.specs.Prelude.{◌≡◌, ℕ, ◌+◌, ◌≤◌, ◌==◌, Bool, true, false, nat_lt, not, ◌&&◌, length, Option, Some, None, if◌then◌else◌, slice_get, Vec}
use Rattle.std.specs.Option.{option_map, option_and_then}
use Rattle.std.specs.declared.alloc.Global.{Global}
use Rattle.std.proofs.Common.{ap, sym, arith, refl}
use Rattle.std.proofs.lemmas.Option.{slice_get_past}
use Rattle.std.proofs.lemmas.Bool.{eqb-true}
use Rattle.script_orders.specs.Progress.{Progress}
use Rattle.script_orders.specs.Turns.{Turned, after_turn}
use Rattle.script_orders.specs.Stage.{Stage, after_phase, choice_count, first_stage, in_next_phase, next_stage, stands_still, turn_of, waits, with_turn}
use Rattle.script_orders.specs.declared.plan.Planned.{Planned}

turn-first : (x y : Stage) (choice : ℕ) (o : Option Turned) →
    option_map (with_turn x choice) o ≡ Some y → first_stage y ≡ first_stage x
turn-first x y choice None h = cc
turn-first x y choice (Some turned) h = let e : with_turn x choice turned ≡ y =
    cc in ap first_stage (sym e)

phase-first : (x y : Stage) (b : Bool) → (if b then Some (in_next_phase x) else None) ≡ Some y →
    first_stage y ≡ first_stage x
phase-first x y true h = let e : in_next_phase x ≡ y = cc in ap first_stage (sym e)
phase-first x y false h = cc

-- a step keeps the lines and the number of phases
pub next-first : (x y : Stage) (choice : ℕ) → next_stage x choice ≡ Some y →
    first_stage y ≡ first_stage x
next-first x y choice step =
    let goes : (b : Bool) →
    (if b then after_phase x else option_map (with_turn x choice) (turn_of x choice)) ≡ Some y →
    first_stage y ≡ first_stage x =
    λ (b : Bool). elim b as (λ b. (if b then after_phase x else option_map (with_turn x choice)
    (turn_of x choice)) ≡ Some y → first_stage y ≡ first_stage x) [
      | true ↦ (λ h. phase-first x y (nat_lt (x.phase + 1) x.phases &&
          (stands_still x && not (waits x))) h)
      | false ↦ (λ h. turn-first x y choice (turn_of x choice) h)
    ]
    in
    goes (choice == length x.programs) step

-- there are no other choices
pub next-others : (x : Stage) (choice : ℕ) → choice_count x ≤ choice → next_stage x choice ≡ None
next-others x choice others =
    let none : slice_get x.programs choice ≡ None = slice_get_past x.programs choice
    (omega (arith, others)) in
    let f : Option (Vec Planned Global) → Option Stage = λ o.
    option_map (with_turn x choice)
    (option_and_then (λ (program : Vec Planned Global). option_and_then
    (λ (seat : Progress). after_turn x.past x.phase (choice + 1) seat program)
    (slice_get x.seats choice)) o)
    in
    let goes : (b : Bool) → (choice == length x.programs) ≡ b →
    (if b then after_phase x else option_map (with_turn x choice) (turn_of x choice)) ≡ None =
    λ (b : Bool). elim b as (λ b. (choice == length x.programs) ≡ b →
    (if b then after_phase x else option_map (with_turn x choice) (turn_of x choice)) ≡ None) [
      | true ↦ (λ e. let is : choice ≡ length x.programs = eqb-true choice (length x.programs) e in
          let k : ⊥ = omega (arith, others, is) in absurd k)
      | false ↦ (λ e. ap f none)
    ]
    in
    goes (choice == length x.programs) refl
