-- Each step of a process that is not in its critical section waits, which leaves the world
-- unchanged, or lowers the measure.
use Rattle.std.proofs.Common.{◌≡◌, ◌==◌, ◌<◌, ◌⊎◌, ℕ, Bool, length, refl, sym, ap, subst, inl, inr, arith, ne_eqb}
use Rattle.std.specs.List.{sum_by}
use Rattle.lamport_core.specs.State.{State, IsProcess, IsInside, IsInsidePoint, process_count, point_of, next, step_from, with_process, with_point, with_flag}
use Rattle.lamport_core.specs.Machine.{state_of}
use Rattle.lamport_core.specs.Safe.{IsSafe, IsPoint}
use Rattle.lamport_core.proofs.Worlds.{length-with, with-of}
use Rattle.lamport_progress.proofs.Sums.{total_less}
use Rattle.lamport_progress.proofs.Measure.{rank, free_rank, taken_rank, measure, lower, taken-le-rank}
use Rattle.lamport_core.specs.declared.At.{At}
use Rattle.lamport_core.specs.declared.At.TheVariants.{Rest}

-- what such a step can change in w
abbrev pub Outcome : State → State → Type 0
Outcome w v = (v ≡ w) ⊎ (measure v < measure w)

module _ (w : State) (i : ℕ) (s : IsSafe w) (p : IsProcess (process_count w) i) where
  there : IsProcess (length w.points) i
  there = subst (λ n. IsProcess n i) (sym s.same_count) p

  -- process i moves from P to Q, and y does not change
  goes : (P Q : At) → point_of w i ≡ P →
      rank (w.y == 0) (process_count w) Q < rank (w.y == 0) (process_count w) P →
      sum_by (rank (w.y == 0) (process_count w)) (with_process w.points i Q) < measure w
  goes P Q at less = grind (arith, total_less, there)

  flagged : (P Q : At) (v : Bool) → point_of w i ≡ P →
      free_rank (process_count w) Q < free_rank (process_count w) P →
      taken_rank (process_count w) Q < taken_rank (process_count w) P →
      Outcome w (with_point (with_flag w i v) i Q)
  flagged P Q v at f t =
      inr ((subst (λ n. sum_by (rank (w.y == 0) n) (with_process w.points i Q) < measure w)
      (sym (length-with w.flags i v)) (goes P Q at (lower (w.y == 0) (process_count w) P Q f t))))

  moved : (P Q : At) → point_of w i ≡ P →
      free_rank (process_count w) Q < free_rank (process_count w) P →
      taken_rank (process_count w) Q < taken_rank (process_count w) P → Outcome w (with_point w i Q)
  moved P Q at f t = inr ((goes P Q at (lower (w.y == 0) (process_count w) P Q f t)))

  waits : (P : At) → point_of w i ≡ P → Outcome w (with_point w i P)
  waits P at = inl ((ap (λ ps. state_of w.x w.y w.flags ps) (with-of Rest w.points i P at)))

  outcome_from : (P : At) → point_of w i ≡ P → IsPoint (process_count w) P → (IsInsidePoint P → ⊥) →
      Outcome w (step_from P w i)
  outcome_from P at h out =
      grind (arith, flagged, goes, lower, waits, ne_eqb, total_less, there, taken-le-rank, moved)

  pub outcome : (IsInside w i → ⊥) → Outcome w (next w i)
  outcome out = outcome_from (point_of w i) refl (s.safe.point i) out
