-- From each reachable world each process can still enter its critical section: the others enter and
-- leave, one after another, until it is inside or can enter alone. No process starts for this, so
-- the number of processes that are not at rest falls.
use Rattle.std.proofs.Common.{◌≡◌, ◌≢◌, ◌<◌, ◌≤◌, ℕ, zero, suc, List, [], ◌∷◌, ◌++◌, length, replicate, refl, sym, ◌∙◌, subst, inl, inr, arith}
use Rattle.std.specs.List.{sum_by}
use Rattle.std.proofs.lemmas.Bool.{cases_eq}
use Rattle.lamport_core.specs.State.{State, Reach, IsProcess, IsSchedule, IsInside, IsInsidePoint, process_count, point_of, next, run, step_from, with_process, after_TestY, after_AwaitY, after_TestX, after_Scan, after_SlowY, after_SlowAwait, flag_of}
use Rattle.lamport_core.proofs.LineSteps.{next_line}
use Rattle.lamport_core.proofs.Worlds.{enters_alone}
use Rattle.lamport_progress.specs.Progress.{IsOccupied, IsEntering, CanEnter}
use Rattle.lamport_progress.proofs.Sums.{total_less, total_at_most, term-le-total}
use Rattle.lamport_progress.proofs.Measure.{measure}
use Rattle.lamport_progress.proofs.Enabled.{some_enabled}
use Rattle.lamport_progress.proofs.Work.{IsSound, sound_next, reach_sound, one_step}
use Rattle.lamport_progress.proofs.Rounds.{Pending, pending_next}
use Rattle.lamport_progress.proofs.Helping.{set_y_entering}
use Rattle.lamport_progress.proofs.Entries.{occupied_or_not, leaves, schedule-append, inside-ne-Rest}
use Rattle.lamport_core.specs.declared.At.{At}
use Rattle.lamport_core.specs.declared.At.TheVariants.{Rest, SetX, TestY, BackB, AwaitY, SetY, TestX, SlowB, Scan, SlowY, SlowAwait, Fast, Slow, Leaving}

-- the number of processes that are not at rest
abbrev begun : At → ℕ
begun Rest = 0
begun _ = 1

abbrev begun_count : State → ℕ
begun_count w = sum_by begun w.points

begun_is : (P : At) → P ≢ Rest → begun P ≡ 1
begun_is P ne = grind arith

-- a step moves its own process
points_from : (P : At) (w : State) (i : ℕ) →
    (Q : At) × ((step_from P w i).points ≡ with_process w.points i Q)
points_from SetX w i = (TestY, refl)
points_from TestY w i = (after_TestY w.y, refl)
points_from BackB w i = (AwaitY, refl)
points_from AwaitY w i = (after_AwaitY w.y, refl)
points_from SetY w i = (TestX, refl)
points_from TestX w i = (after_TestX i w.x, refl)
points_from SlowB w i = (Scan 1, refl)
points_from (Scan k) w i = (after_Scan (process_count w) k (flag_of w k), refl)
points_from SlowY w i = (after_SlowY i w.y, refl)
points_from SlowAwait w i = (after_SlowAwait w.y, refl)
points_from Fast w i = (Leaving, refl)
points_from Slow w i = (Leaving, refl)
points_from Leaving w i = (Rest, refl)
points_from _ w i = (SetX, refl)

module _ (n : ℕ) (w : State) (j : ℕ) (s : IsSound n w) (p : IsProcess n j) where
  in_points : IsProcess (length w.points) j
  in_points = subst (λ m. IsProcess m j) (sym (s.safe.same_count ∙ s.counts)) p

  -- the step of a process that is not at rest starts no other
  starts_nobody : point_of w j ≢ Rest → begun_count (next w j) ≤ begun_count w
  starts_nobody ne = grind (arith, points_from, total_at_most, in_points, begun_is)

  -- and its last step leaves fewer that are not at rest
  ends_one : point_of w j ≡ Leaving → begun_count (next w j) < begun_count w
  ends_one at = grind (arith, total_less, in_points)

run-append : (w : State) (is js : List ℕ) → run w (is ++ js) ≡ run (run w is) js
run-append w [] js = refl
run-append w (i ∷ is) js = run-append (next w i) is js

-- steps to a world with some process in its critical section, in which no more processes are not at
-- rest
record Driven (n : ℕ) (w : State) : Type 0 where
  steps : List ℕ
  processes : IsSchedule n steps
  sound : IsSound n (run w steps)
  inside : IsOccupied (run w steps)
  fewer : begun_count (run w steps) ≤ begun_count w

no_drive : (n : ℕ) (w : State) → IsSound n w → IsOccupied w → Driven n w
no_drive n w s h = record { steps = []; processes = tt; sound = s; inside = h; fewer = omega arith }

one_more : (n : ℕ) (w : State) (j : ℕ) → IsProcess n j → begun_count (next w j) ≤ begun_count w →
    Driven n (next w j) → Driven n w
one_more n w j p le d = let few = d.fewer in record {
  steps = j ∷ d.steps;
  processes = (p, d.processes);
  sound = d.sound;
  inside = d.inside;
  fewer = omega arith;
}

entering-ne-Rest : (P : At) → IsEntering P → P ≢ Rest
entering-ne-Rest P h e = subst IsEntering e h

drive : (n p m : ℕ) (w : State) → Pending n p w → measure w ≤ m → Driven n w
drive n p zero w c le =
    let s = c.sound in
    let r = some_enabled w s.safe s.owned p (entering-ne-Rest (point_of w p) c.entering) in
    elim (one_step n w r.process s (subst (λ k. IsProcess k r.process) s.counts
    (s.safe.safe.process r.process r.started))) [
      | inl h ↦ absurd (c.outside h)
      | inr (inl e) ↦ absurd (r.enabled e)
      | inr (inr less) ↦ absurd (omega arith)
    ]
drive n p (suc m) w c le =
    let s = c.sound in
    let r = some_enabled w s.safe s.owned p (entering-ne-Rest (point_of w p) c.entering) in
    let q : IsProcess n r.process = subst (λ k. IsProcess k r.process) s.counts
    (s.safe.safe.process r.process r.started) in
    let few = starts_nobody n w r.process s q r.started in
    elim (one_step n w r.process s q) [
      | inl h ↦ absurd (c.outside h)
      | inr (inl e) ↦ absurd (r.enabled e)
      | inr (inr less) ↦ one_more n w r.process q few (elim (pending_next n p r.process w c q) [
        | inl h ↦ no_drive n (next w r.process) (sound_next n w r.process s q) h
        | inr d ↦ drive n p m (next w r.process) d (omega arith)
      ])
    ]

can_after : (n i : ℕ) (w : State) (is : List ℕ) → IsSchedule n is → CanEnter n (run w is) i →
    CanEnter n w i
can_after n i w is s c = grind (arith, schedule-append, run-append)

at_once_in : (n i : ℕ) (w : State) → IsInside w i → CanEnter n w i
at_once_in n i w h = record { steps = []; processes = tt; inside = h }

alone_in : (n i : ℕ) (w : State) → IsSound n w → IsProcess n i → w.y ≡ 0 → point_of w i ≡ Rest →
    CanEnter n w i
alone_in n i w s p y at = record {
  steps = replicate 5 i;
  processes = (p, (p, (p, (p, (p, tt)))));
  inside = inl (enters_alone w i s.safe.same_count (subst (λ m. IsProcess m i) (sym s.counts) p) y
      at);
}

-- what remains to be done at a point of process i
data Stand (P : At) : Type 0 where
  resting : P ≡ Rest → Stand P
  leaving : P ≡ Leaving → Stand P
  is_inside : IsInsidePoint P → Stand P
  coming : IsEntering P → Stand P

stand : (P : At) → Stand P
stand P = grind arith

module _ (n i : ℕ) (p : IsProcess n i) where
  -- the claim, if at most c processes are not at rest
  abbrev Fewer : ℕ → Type 0
  Fewer c = (w : State) → IsSound n w → begun_count w ≤ c → CanEnter n w i

  -- process k, in its critical section, leaves it
  out : (c : ℕ) → Fewer c → (w : State) (k : ℕ) → IsSound n w → begun_count w ≤ suc c →
      IsInside w k → CanEnter n w i
  out c f w k s le h = elim (cases_eq k i) [
    | inl e ↦ at_once_in n i w (subst (λ j. IsInside w j) e h)
    | inr ne ↦
        let q : IsProcess n k = subst (λ m. IsProcess m k) s.counts
        (s.safe.safe.process k (inside-ne-Rest (point_of w k) h)) in
        let t : IsSound n (next w k) = sound_next n w k s q in
        let at : point_of (next w k) k ≡ Leaving = leaves (process_count w) (point_of w k)
        (point_of (next w k) k) h
        (next_line w k s.safe (subst (λ m. IsProcess m k) (sym s.counts) q)) in
        let few = starts_nobody n w k s q (inside-ne-Rest (point_of w k) h) in
        let fewer = ends_one n (next w k) k t q at in
        can_after n i w (k ∷ k ∷ []) (q, (q, tt))
        (f (next (next w k) k) (sound_next n (next w k) k t q) (omega arith))
  ]

  -- process j, in its entry, or another enters its critical section
  driven : (c : ℕ) → Fewer c → (w : State) (j : ℕ) → IsSound n w → begun_count w ≤ suc c →
      IsEntering (point_of w j) → CanEnter n w i
  driven c f w j s le on = elim (occupied_or_not w) [
    | inl h ↦ out c f w h.0 s le h.1
    | inr nobody ↦
        let d = drive n j (measure w) w (record { sound = s; outside = nobody; entering = on })
        (omega arith) in
        let few = d.fewer in
        can_after n i w d.steps d.processes (out c f (run w d.steps) d.inside.0 d.sound
        (omega arith) d.inside.1)
  ]

  taken : (c : ℕ) → Fewer c → (w : State) → IsSound n w → begun_count w ≤ suc c → w.y ≢ 0 →
      CanEnter n w i
  taken c f w s le ne = elim (occupied_or_not w) [
    | inl h ↦ out c f w h.0 s le h.1
    | inr nobody ↦ driven c f w w.y s le (set_y_entering (point_of w w.y) (s.owned ne)
        (λ h. nobody (w.y, h)))
  ]

  from_stand : (c : ℕ) → Fewer c → (w : State) → IsSound n w → begun_count w ≤ suc c →
      Stand (point_of w i) → CanEnter n w i
  from_stand c f w s le (resting e) = elim (cases_eq w.y 0) [
    | inl y ↦ alone_in n i w s p y e
    | inr ne ↦ taken c f w s le ne
  ]
  from_stand c f w s le (leaving e) = let fewer = ends_one n w i s p e in
      can_after n i w (i ∷ []) (p, tt) (f (next w i) (sound_next n w i s p) (omega arith))
  from_stand c f w s le (is_inside h) = at_once_in n i w h
  from_stand c f w s le (coming on) = driven c f w i s le on

  begun_some : (w : State) (j : ℕ) → begun_count w ≤ 0 → point_of w j ≢ Rest → ⊥
  begun_some w j le ne = let h = term-le-total begun w.points j refl in let one =
      begun_is (point_of w j) ne in omega arith

  rest_is : (P : At) → (P ≢ Rest → ⊥) → P ≡ Rest
  rest_is P h = grind arith

  zero_y : (w : State) → IsSound n w → begun_count w ≤ 0 → w.y ≡ 0
  zero_y w s le = grind (arith, begun_some)

  can_from : (c : ℕ) → Fewer c
  can_from zero w s le = alone_in n i w s p (zero_y w s le)
      (rest_is (point_of w i) (begun_some w i le))
  can_from (suc c) w s le = from_stand c (can_from c) w s le (stand (point_of w i))

pub can_enter : (n : ℕ) (w : State) (i : ℕ) → Reach n w → IsProcess n i → CanEnter n w i
can_enter n w i r p = can_from n i p (begun_count w) w (reach_sound n w r) (omega arith)
