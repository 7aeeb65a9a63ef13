-- While no process is in its critical section, each step that changes the world lowers the measure.
-- So a schedule in which no step waits takes some process into its critical section, and such steps
-- exist from each world.
use Rattle.std.proofs.lemmas.Grind.{common_steps}
use Rattle.std.proofs.Common.{false, ◌≡◌, ◌≢◌, ◌<◌, ◌≤◌, ◌⊎◌, ℕ, zero, suc, List, [], ◌∷◌, length, refl, sym, ap, ◌∙◌, subst, inl, inr, arith}
use Rattle.std.proofs.lemmas.List.{length-replicate}
use Rattle.lamport_core.specs.State.{State, Reach, IsProcess, IsSchedule, IsInsidePoint, process_count, point_of, next, run, start}
use Rattle.lamport_core.specs.Safe.{IsSafe}
use Rattle.lamport_core.proofs.Worlds.{count-next, next_safe, reach_safe}
use Rattle.lamport_progress.specs.Progress.{IsOccupied, LeadsInside, NeverWaits, IsEnabled, IsOwned, IsWayInside, work_bound}
use Rattle.lamport_progress.proofs.Measure.{measure, measure-le}
use Rattle.lamport_progress.proofs.Falls.{outcome}
use Rattle.lamport_progress.proofs.Enabled.{owned_next, some_enabled, start_enabled, reach_owned}
use Rattle.lamport_core.specs.declared.At.{At}
use Rattle.lamport_core.specs.declared.At.TheVariants.{Rest}

pub inside_or_not : (p : At) → IsInsidePoint p ⊎ (IsInsidePoint p → ⊥)
inside_or_not p = grind arith

-- what holds from a reachable world on
pub record IsSound (n : ℕ) (w : State) : Type 0 where
  pub safe : IsSafe w
  pub owned : IsOwned w
  pub counts : process_count w ≡ n

pub sound_next : (n : ℕ) (w : State) (i : ℕ) → IsSound n w → IsProcess n i → IsSound n (next w i)
sound_next n w i s p = grind (arith, common_steps, next_safe, owned_next, count-next)

pub count-run : (w : State) (is : List ℕ) → process_count (run w is) ≡ process_count w
count-run w [] = refl
count-run w (i ∷ is) = count-run (next w i) is ∙ count-next w i

pub reach_sound : (n : ℕ) (w : State) → Reach n w → IsSound n w
reach_sound n w r = record {
  safe = reach_safe n w r;
  owned = reach_owned n w r;
  counts = ap process_count r.ends ∙ count-run (start n) r.schedule ∙ length-replicate n false;
}

pub at_once : (w : State) (is : List ℕ) → IsOccupied w → LeadsInside w is
at_once w [] h = h
at_once w (i ∷ is) h = inl h

-- while no process is in its critical section, a step waits or lowers the measure
pub one_step : (n : ℕ) (w : State) (i : ℕ) → IsSound n w → IsProcess n i →
    IsOccupied w ⊎ ((next w i ≡ w) ⊎ (measure (next w i) < measure w))
one_step n w i s p = grind (arith, inside_or_not, outcome)

-- if more steps than the measure change the world, some process enters its critical section
steps_lead : (n : ℕ) (is : List ℕ) (w : State) → IsSound n w → IsSchedule n is → NeverWaits w is →
    measure w < length is → LeadsInside w is
steps_lead n [] w s p b lt = absurd (omega arith)
steps_lead n (i ∷ is) w s p b lt = elim (one_step n w i s p.0) [
  | inl h ↦ inl h
  | inr (inl e) ↦ absurd (b.0 e)
  | inr (inr less) ↦ inr (steps_lead n is (next w i) (sound_next n w i s p.0) p.1 b.1 (omega arith))
]

pub work : (n : ℕ) (w : State) (is : List ℕ) → IsSound n w → IsSchedule n is → NeverWaits w is →
    work_bound n < length is → LeadsInside w is
work n w is s p b lt = grind (arith, measure-le, steps_lead)

pub rest_or_not : (p : At) → (p ≡ Rest) ⊎ (p ≢ Rest)
rest_or_not p = grind arith

-- some process is enabled in each world of one process or more
record Mover (n : ℕ) (w : State) : Type 0 where
  process : ℕ
  numbered : IsProcess n process
  enabled : IsEnabled w process

mover : (n : ℕ) (w : State) → 0 < n → IsSound n w → Mover n w
mover n w some s = elim (rest_or_not (point_of w 1)) [
  | inl e ↦ record {
    process = 1;
    numbered = (omega arith, omega arith);
    enabled = start_enabled w s.safe 1 (subst (λ m. IsProcess m 1) (sym s.counts)
        (omega arith, omega arith)) e;
  }
  | inr begun ↦ let r = some_enabled w s.safe s.owned 1 begun in record {
    process = r.process;
    numbered = subst (λ m. IsProcess m r.process) s.counts
        (s.safe.safe.process r.process r.started);
    enabled = r.enabled;
  }
]

-- at most m steps that take some process into its critical section
record Way (n m : ℕ) (w : State) : Type 0 where
  steps : List ℕ
  processes : IsSchedule n steps
  bounded : length steps ≤ m
  inside : IsOccupied (run w steps)

no_steps : (n m : ℕ) (w : State) → IsOccupied w → Way n m w
no_steps n m w h = record { steps = []; processes = tt; bounded = omega arith; inside = h }

one_more_step : (n m : ℕ) (w : State) (i : ℕ) → IsProcess n i → Way n m (next w i) → Way n (suc m) w
one_more_step n m w i p h = let few = h.bounded in record {
  steps = i ∷ h.steps;
  processes = (p, h.processes);
  bounded = omega arith;
  inside = h.inside;
}

way : (n m : ℕ) (w : State) → 0 < n → IsSound n w → measure w ≤ m → Way n m w
way n zero w some s few = let r = mover n w some s in elim (one_step n w r.process s r.numbered) [
  | inl h ↦ no_steps n zero w h
  | inr (inl e) ↦ absurd (r.enabled e)
  | inr (inr less) ↦ absurd (omega arith)
]
way n (suc m) w some s few = let r = mover n w some s in elim (one_step n w r.process s r.numbered) [
  | inl h ↦ no_steps n (suc m) w h
  | inr (inl e) ↦ absurd (r.enabled e)
  | inr (inr less) ↦ one_more_step n m w r.process r.numbered (way n m (next w r.process) some
      (sound_next n w r.process s r.numbered) (omega arith))
]

pub sound-measure-le : (n : ℕ) (w : State) → IsSound n w → measure w ≤ work_bound n
sound-measure-le n w s = subst (λ m. measure w ≤ work_bound m) s.counts
    (measure-le w s.safe.same_count)

pub some_way : (n : ℕ) (w : State) → 0 < n → IsSound n w → (steps : List ℕ) × IsWayInside n w steps
some_way n w some s = let h = way n (work_bound n) w some s (sound-measure-le n w s) in
    (h.steps, record { processes = h.processes; bounded = h.bounded; inside = h.inside })
