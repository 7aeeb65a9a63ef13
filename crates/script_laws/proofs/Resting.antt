-- The end of a phase: no process can go on, and none waits.
use Rattle.std.proofs.Common.{◌≡◌, ℕ, zero, suc, ◌+◌, ◌<◌, true, false, List, length, map, Some, None, slice_get, refl, ◌∙◌, arith, eq-eqb, Vec, Global}
use Rattle.std.proofs.lemmas.Bool.Decides.{nat_tests}
use Rattle.std.proofs.lemmas.List.{length-map}
use Rattle.std.proofs.lemmas.Option.{slice_get-map}
use Rattle.mq_model.specs.Record.{Past}
use Rattle.mq_model.specs.Waits.{open_wait}
use Rattle.script_orders.specs.Progress.{Progress}
use Rattle.script_orders.specs.Stage.{Stage, in_next_phase, next_stage, none_can_turn, one_waits, replies, stands_still, observed, turn_of, waits}
use Rattle.script_orders.specs.Turns.{after_turn}
use Rattle.script_orders.specs.declared.plan.Planned.{Planned}
use Rattle.script_orders.proofs.Turning.{turn_of-is}
use Rattle.script_laws.proofs.Runners.{Frame, Runner, ends_in, programs_in, there-is}
use Rattle.script_laws.proofs.Sitting.{Through}
use Rattle.script_laws.proofs.Weaving.{ended}

-- a process that does not wait, and whose next line is of a later phase, cannot go on
pub no-turn : (past : Past) (phase p : ℕ) (progress : Progress) (program : Vec Planned Global) →
    open_wait past p ≡ None →
    ((planned : Planned) → slice_get program.items progress.begun ≡ Some planned →
    phase < planned.phase) → after_turn past phase p progress program ≡ None
no-turn past phase p progress program free later = grind (arith, nat_tests)

pub has-in : {B : Type 0} (f : Runner → B) (runners : List Runner) (i : ℕ) (r : Runner) →
    slice_get runners i ≡ Some r → slice_get (map f runners) i ≡ Some (f r)
has-in f runners i r has = grind (arith, slice_get-map)

none-can : (s : Stage) (n : ℕ) → ((i : ℕ) → i < n → turn_of s i ≡ None) → none_can_turn s n ≡ true
none-can s zero none = refl
none-can s (suc n) none = grind (arith, none-can s n)

none-waits : (past : Past) (n : ℕ) → ((i : ℕ) → i < n → open_wait past (i + 1) ≡ None) →
    one_waits past n ≡ false
none-waits past zero none = refl
none-waits past (suc n) none = grind (arith, none-waits past n)

-- if no process has a turn the machine stands still
pub still-where : (frame : Frame) (phase : ℕ) (to : Past) (runners : List Runner) →
    ((i : ℕ) (r : Runner) → slice_get runners i ≡ Some r → after_turn to phase (i + 1) r.end
    r.program ≡ None) → stands_still (ended frame phase to runners) ≡ true
still-where frame phase to runners none = none-can (ended frame phase to runners)
    (length (programs_in runners)) (λ i below.
    let there =
    there-is runners i (omega (arith, below, length-map runners (λ (r : Runner). r.program))) in
    let r : Runner = there.0 in
    turn_of-is (ended frame phase to runners) i r.program r.end
    (has-in (λ r. r.program) runners i r there.1) (has-in (λ r. r.end) runners i r there.1) ∙
    none i r there.1)

-- all have completed the phase
abbrev pub AllThrough : ℕ → Past → Past → List Runner → Type 0
AllThrough phase past to runners = (i : ℕ) (r : Runner) → slice_get runners i ≡ Some r →
    Through (i + 1) phase past to r

module _ (frame : Frame) (phase : ℕ) (past to : Past) (runners : List Runner)
    (through : AllThrough phase past to runners) where
  count : length (programs_in runners) ≡ length runners
  count = length-map runners (λ (r : Runner). r.program)

  pub still : stands_still (ended frame phase to runners) ≡ true
  still = still-where frame phase to runners (λ i r has. no-turn to phase (i + 1) r.end r.program
      (through i r has).free (through i r has).done)

  pub waits-none : waits (ended frame phase to runners) ≡ false
  waits-none = none-waits to (length (programs_in runners)) (λ i below.
      let there = there-is runners i (omega (arith, below, count)) in
      (through i there.0 there.1).free)

  pub tells : observed (ended frame phase to runners) ≡ record {
    stage = phase;
    stuck = false;
    text = replies (ends_in runners);
  }
  tells = grind (arith, waits-none)

  -- the next phase, if there is one
  pub next-begins : phase + 1 < frame.phases →
      next_stage (ended frame phase to runners) (length (programs_in runners)) ≡
      Some (in_next_phase (ended frame phase to runners))
  next-begins more = grind (arith, eq-eqb, nat_tests, still, waits-none)
