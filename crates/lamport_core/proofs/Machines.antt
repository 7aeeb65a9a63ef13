-- What the code does to its vectors is what the definitions say of lists by process.
use Rattle.std.proofs.lemmas.Grind.{common_steps}
use Rattle.std.proofs.Common.{◌≡◌, ◌<◌, ◌-◌, ℕ, Bool, List, length, get_or, sym, ap, ◌∙◌, subst, arith}
use Rattle.std.proofs.Math.ListN.{set}
use Rattle.std.proofs.lemmas.List.{get_or_read}
use Rattle.lamport_core.specs.State.{State, IsProcess, of_process, with_process, step_from, next}
use Rattle.lamport_core.specs.Machine.{Machine, IsSound, state_of, stepped, count}
use Rattle.lamport_core.specs.Line.{one_more}
use Rattle.lamport_core.specs.declared.At.{At}
use Rattle.lamport_core.specs.declared.At.TheVariants.{Rest}
use Rattle.lamport_core.proofs.Worlds.{next_safe, count-next, length-with}

-- what is read at place i - 1 is what process i has
pub of_process_read : {A : Type 0} (d : A) (xs : List A) (i : ℕ) (x : A) → IsProcess (length xs) i →
    x ≡ get_or xs (i - 1) x → x ≡ of_process d xs i
of_process_read d xs i x p e = grind (arith, get_or_read)

-- a write at index i - 1 gives process i its item
pub set_place : {A : Type 0} (xs : List A) (i : ℕ) (v : A) → 0 < i →
    set xs (i - 1) v ≡ with_process xs i v
set_place xs i v h = grind (arith, set)

pub stepped_sound : (m : Machine) (i : ℕ) → IsSound m → IsProcess (count m) i →
    IsSound (stepped m i)
stepped_sound m i s p = grind (arith, common_steps, next_safe, length-with, count-next)

module _ (x y x' y' : ℕ) (flags flags' fs : List Bool) (points : List At) (steps : List ℕ) (i : ℕ)
    (p q : At) (had now : ℕ) where
  pub step_is : IsSound (record { state = state_of x y flags points; steps = steps }) →
      IsProcess (length flags) i → fs ≡ flags' → p ≡ get_or points (i - 1) p →
      ((ps : List At) → state_of x' y' flags' (with_process ps i q) ≡ step_from p
      (state_of x y flags ps) i) → had ≡ get_or steps (i - 1) had → now ≡ one_more had →
      ◌≡◌ {A = Machine} (record {
        state = state_of x' y' fs (set points (i - 1) q);
        steps = set steps (i - 1) now;
      }) (stepped (record {
        state = state_of x y flags points;
        steps = steps;
      }) i)
  step_is s r same at does had_is now_is =
      let m : Machine = record { state = state_of x y flags points; steps = steps } in
      let from : p ≡ of_process Rest points i = of_process_read Rest points i p
      (subst (λ n. IsProcess n i) (sym s.safe.same_count) r) at in
      let had_before : had ≡ of_process 0 steps i = of_process_read 0 steps i had
      (subst (λ n. IsProcess n i) (sym s.counts) r) had_is in
      let state : state_of x' y' fs (set points (i - 1) q) ≡ next m.state i =
      ap (λ gs. state_of x' y' gs (set points (i - 1) q)) same
      ∙ ap (λ ps. state_of x' y' flags' ps) (set_place points i q r.0)
      ∙ does points
      ∙ ap (λ a. step_from a (state_of x y flags points) i) from in
      let counted : set steps (i - 1) now ≡ with_process steps i (one_more (of_process 0 steps i)) =
      set_place steps i now r.0
      ∙ ap (λ k. with_process steps i k) (now_is ∙ ap one_more had_before) in
      ap (λ (v : State). let n : Machine = record { state = v; steps = set steps (i - 1) now } in
      n) state
      ∙ ap (λ (ks : List ℕ). let n : Machine = record { state = next m.state i; steps = ks } in
      n) counted
