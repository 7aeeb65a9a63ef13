-- How each step changes the measure of fair rounds, and which processes are helpful.
use Rattle.std.proofs.Common.{◌≡◌, ◌≢◌, ◌<◌, ◌≤◌, ◌⊎◌, ℕ, suc, Bool, false, List, length, refl, sym, subst, inl, inr, arith}
use Rattle.std.specs.List.{sum_by}
use Rattle.lamport_core.specs.State.{State, IsProcess, IsInside, IsInsidePoint, process_count, point_of, flag_of, next, step_from, with_process, with_point, with_flag, of_process, after_Scan}
use Rattle.lamport_core.specs.Safe.{IsSafe, IsPoint}
use Rattle.lamport_core.proofs.Worlds.{of-with_same, of-with_other, length-with}
use Rattle.lamport_progress.proofs.Sums.{total_less, total_at_most}
use Rattle.lamport_progress.proofs.Clear.{clear, storing, storing_count, scan_rank, owner_part, fair_measure, fair_measure_at, owner-le, owner_falls, owner_lower, owner_full, find_storing}
use Rattle.lamport_progress.proofs.Rounds.{Held, Helper, Fair, others_next}
use Rattle.lamport_progress.specs.Progress.{IsOccupied, IsEntering, HasSetY}
use Rattle.lamport_core.specs.declared.At.{At}
use Rattle.lamport_core.specs.declared.At.TheVariants.{Rest, SetX, TestY, BackB, SetY, TestX, SlowB, Scan, SlowY, Leaving}

-- the part of the process that y names does not increase from P to Q
abbrev pub Sinks : ℕ → At → At → Type 0
Sinks n P Q = (scan_rank n Q ≤ scan_rank n P) × (storing Q ≤ storing P)

-- the process that y names leads, once no process is about to store to y
abbrev pub Leads : State → ℕ → Type 0
Leads w i = (i ≡ w.y) × (storing_count w.points ≡ 0)

-- a point from which the leader moves
abbrev pub GoesOn : (ℕ → Bool) → At → Type 0
GoesOn b (Scan j) = b j ≡ false
GoesOn b SlowY = Unit {0}
GoesOn b _ = ⊥

-- a point with a flag that may be up
abbrev pub Blocks : At → Type 0
Blocks SetX = Unit {0}
Blocks TestY = Unit {0}
Blocks BackB = Unit {0}
Blocks SetY = Unit {0}
Blocks TestX = Unit {0}
Blocks SlowB = Unit {0}
Blocks Leaving = Unit {0}
Blocks _ = ⊥

-- a process that can block a scan helps, and so does the leader if it can move
abbrev pub Helps : State → ℕ → Type 0
Helps w i = Blocks (point_of w i) ⊎ (Leads w i × GoesOn (flag_of w) (point_of w i))

-- a step that changes neither y nor the flags, and increases no part of the measure
pub record Quiet (w : State) (v : State) : Type 0 where
  pub le : fair_measure v ≤ fair_measure w
  pub y : v.y ≡ w.y
  pub flags : v.flags ≡ w.flags
  pub count : storing_count v.points ≤ storing_count w.points

-- how a step of process i, to v, changes the measure
abbrev pub Effect : State → ℕ → State → Type 0
Effect w i v = IsInside v i ⊎ ((fair_measure v < fair_measure w) ⊎ Quiet w v)

-- and how it does if process i helps
abbrev pub Help : State → ℕ → State → Type 0
Help w i v = IsInside v i ⊎ (fair_measure v < fair_measure w)

module _ (w : State) (i : ℕ) (s : IsSafe w) (q : IsProcess (process_count w) i) (ne : w.y ≢ 0) where
  there : IsProcess (length w.points) i
  there = subst (λ n. IsProcess n i) (sym s.same_count) q

  -- the points after process i moved to Q, and the measure then
  abbrev after : At → List At
  after Q = with_process w.points i Q

  abbrev measure_after : At → ℕ
  measure_after Q = fair_measure_at (process_count w) w.y (of_process Rest (after Q)) (after Q)

  term_at_most : (f : At → ℕ) (P Q : At) (k : ℕ) → point_of w i ≡ P → f Q ≤ f P →
      f (of_process Rest (after Q) k) ≤ f (point_of w k)
  term_at_most f P Q k at le = grind (arith, of-with_same, there, of-with_other)

  sum_at_most : (f : At → ℕ) (P Q : At) → point_of w i ≡ P → f Q ≤ f P →
      sum_by f (after Q) ≤ sum_by f w.points
  sum_at_most f P Q at le = total_at_most f w.points i Q there (subst (λ a. f Q ≤ f a) (sym at) le)

  sum_less : (f : At → ℕ) (P Q : At) → point_of w i ≡ P → f Q < f P →
      sum_by f (after Q) < sum_by f w.points
  sum_less f P Q at lt = grind (arith, total_less, there)

  part_falls : (P Q : At) → point_of w i ≡ P → Sinks (process_count w) P Q →
      owner_part (storing_count (after Q)) (process_count w) (of_process Rest (after Q) w.y) ≤
      owner_part (storing_count w.points) (process_count w) (point_of w w.y)
  part_falls P Q at h = owner_falls _ _ (process_count w) _ _ (sum_at_most storing P Q at h.1)
      (term_at_most (scan_rank (process_count w)) P Q w.y at h.0)

  less_to : (P Q : At) → point_of w i ≡ P → clear Q < clear P → Sinks (process_count w) P Q →
      measure_after Q < fair_measure w
  less_to P Q at lt h = omega (arith, sum_less clear P Q at lt, part_falls P Q at h)

  strict_flag : (P Q : At) (v : Bool) → point_of w i ≡ P → clear Q < clear P →
      Sinks (process_count w) P Q → Help w i (with_point (with_flag w i v) i Q)
  strict_flag P Q v at lt h = inr (subst
      (λ n. fair_measure_at n w.y (of_process Rest (after Q)) (after Q) < fair_measure w)
      (sym (length-with w.flags i v)) (less_to P Q at lt h))

  enters : (Q : At) → IsInsidePoint Q → IsInside (with_point w i Q) i
  enters Q inside = subst IsInsidePoint (sym (of-with_same Rest w.points i Q there)) inside

  quiet : (P Q : At) → point_of w i ≡ P → clear Q ≤ clear P → Sinks (process_count w) P Q →
      Effect w i (with_point w i Q)
  quiet P Q at le h = inr (inr (record {
    le = omega (arith, sum_at_most clear P Q at le, part_falls P Q at h);
    y = refl;
    flags = refl;
    count = sum_at_most storing P Q at h.1;
  }))

  scan : (j : ℕ) (f : Bool) → IsProcess (process_count w) j → point_of w i ≡ Scan j →
      Effect w i (with_point w i (after_Scan (process_count w) j f))
  scan j f r at = grind (arith, quiet)

  effect_from : (P : At) → point_of w i ≡ P → IsPoint (process_count w) P →
      (IsInsidePoint P → ⊥) → Effect w i (step_from P w i)
  effect_from P at h out =
      grind (arith, strict_flag, quiet, scan, enters, less_to, sum_less, owner-le, owner_full)

  effect : (IsInside w i → ⊥) → Effect w i (next w i)
  effect out = effect_from (point_of w i) refl (s.safe.point i) out

  help : Helps w i → Help w i (next w i)
  help (inl b) = grind (arith, less_to, strict_flag, sum_less, owner-le, owner_full, enters)
  help (inr l) = grind (arith, enters, of-with_same, there, sum_at_most, owner_lower)

-- a process other than i still helps after a quiet step of i
helps_on : (w v : State) (j : ℕ) → Quiet w v → point_of v j ≡ point_of w j → Helps w j → Helps v j
helps_on w v j k at h5 = grind arith

pub set_y_entering : (P : At) → HasSetY P → (IsInsidePoint P → ⊥) → IsEntering P
set_y_entering P h out = grind arith

module _ (w : State) (s : IsSafe w) (out : IsOccupied w → ⊥) where
  block_helper : (j : ℕ) → Blocks (point_of w j) → Helper Helps w
  block_helper j b = grind arith

  lead_helper : (j : ℕ) (P : At) → point_of w j ≡ P → Leads w j → GoesOn (flag_of w) P →
      Helper Helps w
  lead_helper j P at l g = grind arith

  scan_helper : (j k : ℕ) (f : Bool) → flag_of w k ≡ f → point_of w j ≡ Scan k → Leads w j →
      Helper Helps w
  scan_helper j k f e at l = grind arith

  -- the leader helps, or waits for a process that does
  led : (j : ℕ) (P : At) → point_of w j ≡ P → Leads w j → HasSetY P → (IsInsidePoint P → ⊥) →
      Helper Helps w
  led j (Scan k) at l h o = scan_helper j k (flag_of w k) refl at l
  led j P at l h o = grind (arith, block_helper, lead_helper)

  some_helper : HasSetY (point_of w w.y) → Helper Helps w
  some_helper set_y = elim (find_storing w.points) [
    | inr k ↦ block_helper (suc k.0) (subst Blocks (sym k.1) tt)
    | inl none ↦ led w.y (point_of w w.y) refl (refl, none) set_y (λ h. out (w.y, h))
  ]

-- the measure and the helpers satisfy the rule of fair rounds
pub fair : (n p : ℕ) → Fair n p fair_measure Helps
fair n p = record {
  falls = λ w i c q. elim (effect w i c.pending.sound.safe (counted n p w i c q) c.taken
      (λ h. c.pending.outside (i, h))) [
        | inl h ↦ inl (i, h)
        | inr (inl h) ↦ inr (omega arith)
        | inr (inr h) ↦ inr h.le
      ];
  lowers = λ w i c q h. elim (help w i c.pending.sound.safe (counted n p w i c q) c.taken h) [
    | inl k ↦ inl (i, k)
    | inr k ↦ inr k
  ];
  stays = λ w i j c q other h. elim (effect w i c.pending.sound.safe (counted n p w i c q) c.taken
      (λ k. c.pending.outside (i, k))) [
        | inl k ↦ inl (i, k)
        | inr (inl k) ↦ inr (inl k)
        | inr (inr k) ↦ inr (inr (helps_on w (next w i) j k (others_next w i j other) h))
      ];
  some = λ w c. some_helper w c.pending.sound.safe c.pending.outside
      (c.pending.sound.owned c.taken);
}
  where
    counted : (n p : ℕ) (w : State) (i : ℕ) → Held n p w → IsProcess n i →
        IsProcess (process_count w) i
    counted n p w i c q = subst (λ m. IsProcess m i) (sym c.pending.sound.counts) q
