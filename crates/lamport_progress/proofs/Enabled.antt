-- No world is a dead end. The process that y names has set y, so it does not wait for y to be 0. If
-- it waits for a flag in its scan, the process with that flag has it up, and so waits for nothing.
use Rattle.std.proofs.Common.{[], ◌∷◌, ◌≡◌, ◌≢◌, ℕ, true, false, cond, List, length, refl, sym, ap, ◌∙◌, subst, inl, inr, arith}
use Rattle.std.proofs.lemmas.Bool.{cases_eq, eq-eqb}
use Rattle.std.proofs.lemmas.List.{length-replicate}
use Rattle.lamport_core.specs.State.{State, Reach, IsProcess, IsSchedule, process_count, point_of, flag_of, next, run, start, step_from, with_process, of_process, after_SlowY}
use Rattle.lamport_core.specs.Safe.{IsSafe, FlagFits}
use Rattle.lamport_core.specs.Line.{IsLine}
use Rattle.lamport_core.proofs.LineSteps.{next_line}
use Rattle.lamport_core.proofs.Worlds.{of-with_same, of-with_other, count-next, next_safe, reach_safe, start_safe}
use Rattle.lamport_progress.specs.Progress.{IsEnabled, EnabledProcess, HasSetY, IsOwned}
use Rattle.lamport_core.specs.declared.At.{At}
use Rattle.lamport_core.specs.declared.At.TheVariants.{Rest, SetX, AwaitY, Scan, SlowAwait, Slow}

module _ (w : State) (i : ℕ) (s : IsSafe w) (p : IsProcess (process_count w) i)
    (o : IsOwned w) where
  inside_list : IsProcess (length w.points) i
  inside_list = subst (λ n. IsProcess n i) (sym s.same_count) p

  -- a step of process i from P to Q that leaves y
  owns : (P Q : At) → point_of w i ≡ P → (w.y ≡ i → HasSetY P → HasSetY Q) → w.y ≢ 0 →
      HasSetY (of_process Rest (with_process w.points i Q) w.y)
  owns P Q at h taken = elim (cases_eq w.y i) [
    | inl e ↦ subst (λ k. HasSetY (of_process Rest (with_process w.points i Q) k)) (sym e)
        (subst HasSetY (sym (of-with_same Rest w.points i Q inside_list))
        (h e (subst HasSetY at (subst (λ k. HasSetY (point_of w k)) e (o taken)))))
    | inr ne ↦ subst HasSetY (sym (of-with_other Rest w.points i w.y Q ne)) (o taken)
  ]

  set_y_SlowY : w.y ≡ i → HasSetY (after_SlowY i w.y)
  set_y_SlowY e = subst (λ t. HasSetY (cond t Slow SlowAwait)) (sym (eq-eqb w.y i e)) tt

  owned_from : (P : At) → point_of w i ≡ P → IsOwned (step_from P w i)
  owned_from P at = grind (arith, owns, of-with_same, inside_list, set_y_SlowY)

  pub owned_next : IsOwned (next w i)
  owned_next = owned_from (point_of w i) refl

pub owned_run : (w : State) (is : List ℕ) → IsSafe w → IsOwned w → IsSchedule (process_count w) is →
    IsOwned (run w is)
owned_run w [] s o p = o
owned_run w (i ∷ is) s o p = owned_run (next w i) is (next_safe w i s p.0) (owned_next w i s p.0 o)
    (subst (λ n. IsSchedule n is) (sym (count-next w i)) p.1)

-- the process whose flag a scan tests next
abbrev scan_of : At → ℕ
scan_of (Scan j) = j
scan_of _ = 0

-- a point whose step always changes the world
abbrev pub IsSteady : At → Type 0
IsSteady Rest = ⊥
IsSteady AwaitY = ⊥
IsSteady (Scan j) = ⊥
IsSteady SlowAwait = ⊥
IsSteady _ = Unit {0}

-- a point of a process that is not at rest and does not wait for y to be 0
abbrev pub IsBegunFree : ℕ → At → Type 0
IsBegunFree y Rest = ⊥
IsBegunFree y AwaitY = y ≡ 0
IsBegunFree y SlowAwait = y ≡ 0
IsBegunFree y _ = Unit {0}

steady_leaves : (n : ℕ) (P Q : At) → IsSteady P → IsLine n P Q → Q ≡ P → ⊥
steady_leaves n P Q h l e = grind arith

-- a process with its flag up is at such a point
pub up_steady : (P : At) → FlagFits P true → IsSteady P
up_steady P f = grind arith

pub steady-ne-Rest : (P : At) → IsSteady P → P ≢ Rest
steady-ne-Rest P h e = subst IsSteady e h

free-ne-Rest : (y : ℕ) (P : At) → IsBegunFree y P → P ≢ Rest
free-ne-Rest y P h e = subst (IsBegunFree y) e h

pub set_y_free : (y : ℕ) (P : At) → HasSetY P → IsBegunFree y P
set_y_free y P h = grind arith

pub at_zero_free : (y : ℕ) (P : At) → y ≡ 0 → P ≢ Rest → IsBegunFree y P
at_zero_free y P e ne = grind arith

module _ (w : State) (s : IsSafe w) where
  pub goes_on : (i : ℕ) → point_of (next w i) i ≢ point_of w i → IsEnabled w i
  goes_on i ne e = ne (ap (λ v. point_of v i) e)

  -- a process at a point that always moves
  pub steady_enabled : (i : ℕ) → IsSteady (point_of w i) → IsEnabled w i
  steady_enabled i h = goes_on i (steady_leaves (process_count w) (point_of w i)
      (point_of (next w i) i) h
      (next_line w i s (s.safe.process i (steady-ne-Rest (point_of w i) h))))

  pub start_enabled : (i : ℕ) → IsProcess (process_count w) i → point_of w i ≡ Rest → IsEnabled w i
  start_enabled i p at = goes_on i (λ h.
      let l : point_of (next w i) i ≡ SetX =
      subst (λ R. IsLine (process_count w) R (point_of (next w i) i)) at (next_line w i s p) in
      let d : SetX ≡ Rest = sym l ∙ h ∙ at in cc)

  pub up_enabled : (j : ℕ) → flag_of w j ≡ true → IsEnabled w j
  up_enabled j up =
      steady_enabled j (up_steady (point_of w j) (subst (λ b. FlagFits (point_of w j) b) up
      (s.safe.flag j)))

  pub up-ne-Rest : (j : ℕ) → flag_of w j ≡ true → point_of w j ≢ Rest
  up-ne-Rest j up = steady-ne-Rest (point_of w j) (up_steady (point_of w j)
      (subst (λ b. FlagFits (point_of w j) b) up (s.safe.flag j)))

  pub down_enabled : (i j : ℕ) → flag_of w j ≡ false → point_of w i ≡ Scan j → IsEnabled w i
  down_enabled i j down at = grind (arith, goes_on, of-with_same)

  -- at a point that waits neither for y nor for a flag
  pub free_enabled : (i : ℕ) (P : At) → point_of w i ≡ P → IsBegunFree w.y P →
      ((j : ℕ) → P ≢ Scan j) → IsEnabled w i
  free_enabled i P at h f = grind (arith, goes_on, of-with_same, steady_enabled)

  enabled_from : (i : ℕ) (P : At) → point_of w i ≡ P → IsBegunFree w.y P → EnabledProcess w
  enabled_from i P at h =
      grind (arith, up-ne-Rest, up_enabled, down_enabled, free-ne-Rest, free_enabled)

  -- unless all are at rest, some process that is not at rest is enabled
  pub some_enabled : IsOwned w → (i : ℕ) → point_of w i ≢ Rest → EnabledProcess w
  some_enabled o i begun = elim (cases_eq w.y 0) [
    | inl e ↦ enabled_from i (point_of w i) refl (at_zero_free w.y (point_of w i) e begun)
    | inr ne ↦ enabled_from w.y (point_of w w.y) refl (set_y_free w.y (point_of w w.y) (o ne))
  ]

start_owned : (n : ℕ) → IsOwned (start n)
start_owned n taken = absurd (taken refl)

pub reach_owned : (n : ℕ) (w : State) → Reach n w → IsOwned w
reach_owned n w r = subst IsOwned (sym r.ends) (owned_run (start n) r.schedule (start_safe n)
    (start_owned n) (subst (λ m. IsSchedule m r.schedule)
    (sym (length-replicate n false)) r.processes))

pub no_dead_end : (n : ℕ) (w : State) (i : ℕ) → Reach n w → point_of w i ≢ Rest → EnabledProcess w
no_dead_end n w i r = some_enabled w (reach_safe n w r) (reach_owned n w r) i
