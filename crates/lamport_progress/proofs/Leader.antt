-- The process that takes the next step on the way into a critical section: process 1 while y is 0,
-- else the process that y names; or, if that one waits in its scan, the process whose flag it waits
-- for.
use Rattle.std.proofs.Common.{◌≡◌, ◌<◌, ◌≤◌, ◌+◌, ℕ, List, [], ◌∷◌, ◌++◌, length, refl, sym, ap, ◌∙◌, subst, arith, length-append}
use Rattle.lamport_core.specs.State.{State, IsProcess, IsSchedule, process_count, next, run, start}
use Rattle.lamport_progress.specs.Progress.{IsOccupied, IsEnabled, work_bound}
use Rattle.lamport_progress.proofs.Measure.{measure}
use Rattle.lamport_progress.proofs.Work.{IsSound, reach_sound, one_step, sound_next, sound-measure-le}

-- one more step at the end of a schedule
pub run_push : (w : State) (is : List ℕ) (i : ℕ) → run w (is ++ i ∷ []) ≡ next (run w is) i
run_push w [] i = refl
run_push w (j ∷ is) i = run_push (next w j) is i

pub schedule_push : (n : ℕ) (is : List ℕ) (i : ℕ) → IsSchedule n is → IsProcess n i →
    IsSchedule n (is ++ i ∷ [])
schedule_push n [] i s p = (p, tt)
schedule_push n (j ∷ is) i s p = (s.0, schedule_push n is i s.1 p)

-- while no process is in its critical section, an enabled process lowers the measure
pub enabled_lowers : (n : ℕ) (w : State) (i : ℕ) → IsSound n w → IsProcess n i →
    (IsOccupied w → ⊥) → IsEnabled w i → measure (next w i) < measure w
enabled_lowers n w i s p out r = grind (arith, one_step)

-- steps have led from the world after a schedule to w, and each has lowered the measure
pub record Led (n : ℕ) (schedule : List ℕ) (w : State) (steps : List ℕ) : Type 0 where
  pub reached : w ≡ run (run (start n) schedule) steps
  pub processes : IsSchedule n steps
  pub bounded : length steps + measure w ≤ work_bound n
  pub sound : IsSound n w
  pub some : 1 ≤ n

pub led_start : (n : ℕ) (schedule : List ℕ) (w : State) (steps : List ℕ) → 1 ≤ n →
    IsSchedule n schedule → w ≡ run (start n) schedule → steps ≡ [] → Led n schedule w steps
led_start n schedule w steps some s e none = subst (λ is. Led n schedule w is) (sym none) (
    let sound = reach_sound n w (record { schedule = schedule; processes = s; ends = e }) in record {
      reached = e;
      processes = tt;
      bounded = omega (arith, sound-measure-le n w sound);
      sound = sound;
      some = some;
    })

pub led_step : (n : ℕ) (schedule : List ℕ) (w v : State) (steps more : List ℕ) (i : ℕ) →
    Led n schedule w steps → (IsOccupied w → ⊥) → IsProcess (process_count w) i → IsEnabled w i →
    v ≡ next w i → more ≡ steps ++ i ∷ [] → Led n schedule v more
led_step n schedule w v steps more i l out p r e m =
    let q = subst (λ k. IsProcess k i) l.sound.counts p in
    let less = enabled_lowers n w i l.sound q out r in
    let few = l.bounded in
    subst (λ is. Led n schedule v is) (sym m) (subst (λ u. Led n schedule u (steps ++ i ∷ []))
    (sym e) (record {
      reached = ap (λ u. next u i) l.reached ∙ sym (run_push (run (start n) schedule) steps i);
      processes = schedule_push n steps i l.processes q;
      bounded = omega (arith, length-append steps (i ∷ []));
      sound = sound_next n w i l.sound q;
      some = l.some;
    }))
