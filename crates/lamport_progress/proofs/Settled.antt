-- After two fair rounds y is not 0, or each process is settled: none is at TestX, SlowB, BackB or
-- Leaving.
use Rattle.std.proofs.Common.{◌≡◌, ◌≢◌, ◌<◌, ◌≤◌, ◌-◌, ◌⊎◌, ℕ, suc, List, [], ◌∷◌, length, sym, subst, inl, inr, arith}
use Rattle.std.specs.List.{Contains}
use Rattle.std.proofs.lemmas.Bool.{cases_eq}
use Rattle.lamport_core.specs.State.{State, IsProcess, IsSchedule, IsInside, IsInsidePoint, point_of, next, run, with_process, of_process}
use Rattle.lamport_core.specs.Safe.{IsSafe}
use Rattle.lamport_core.proofs.Worlds.{of-with_same}
use Rattle.lamport_progress.specs.Progress.{IsFairRound}
use Rattle.lamport_progress.proofs.Enabled.{IsSteady, steady_enabled, steady-ne-Rest}
use Rattle.lamport_progress.proofs.Rounds.{Pending, others_next, contains_head, taken_from}
use Rattle.lamport_core.specs.declared.At.{At}
use Rattle.lamport_core.specs.declared.At.TheVariants.{Rest, BackB, TestX, SlowB, Leaving}

-- the steps of a process until it is settled, while y is 0
abbrev pub unsettled : At → ℕ
unsettled TestX = 2
unsettled SlowB = 1
unsettled BackB = 1
unsettled Leaving = 1
unsettled _ = 0

abbrev pub Settled : ℕ → State → Type 0
Settled m w = (w.y ≢ 0) ⊎ ((j : ℕ) → unsettled (point_of w j) ≤ m)

-- process p is in its entry and no process is in its critical section, throughout the schedule
abbrev pub StaysPending : ℕ → ℕ → State → List ℕ → Type 0
StaysPending n p w [] = Pending n p w
StaysPending n p w (i ∷ is) = Pending n p w × StaysPending n p (next w i) is

unsettled-le : (P : At) → unsettled P ≤ 2
unsettled-le P = grind arith

pub settled_two : (w : State) → Settled 2 w
settled_two w = inr (λ j. unsettled-le (point_of w j))

unsettled_steady : (P : At) → 0 < unsettled P → IsSteady P
unsettled_steady P h = grind arith

module _ (w : State) (i : ℕ) (there : IsProcess (length w.points) i) where
  -- what remains to settle after a step of process i to v, if it was k + 1 or 0
  abbrev Settles : ℕ → State → Type 0
  Settles k v = IsInside v i ⊎ ((v.y ≢ 0) ⊎ (unsettled (point_of v i) ≤ k))

  at_Q : (k : ℕ) (Q : At) → unsettled Q ≤ k →
      unsettled (of_process Rest (with_process w.points i Q) i) ≤ k
  at_Q k Q le = subst (λ a. unsettled a ≤ k) (sym (of-with_same Rest w.points i Q there)) le

  inside_Q : (Q : At) → IsInsidePoint Q →
      IsInsidePoint (of_process Rest (with_process w.points i Q) i)
  inside_Q Q h = subst IsInsidePoint (sym (of-with_same Rest w.points i Q there)) h

-- process j has at most m steps left by the measure f, or one more and it takes a step
abbrev pub Due : (At → ℕ) → ℕ → ℕ → State → List ℕ → Type 0
Due f j m w is = (f (point_of w j) ≤ m) ⊎ ((f (point_of w j) ≤ suc m) × Contains is j)

pub due-le : (f : At → ℕ) (j m : ℕ) (w : State) (is : List ℕ) → Due f j m w is →
    f (point_of w j) ≤ suc m
due-le f j m w is h5 = grind arith

-- the same after a step of another
pub due_on : (f : At → ℕ) (i j m : ℕ) (w : State) (is : List ℕ) → j ≢ i → Due f j m w (i ∷ is) →
    Due f j m (next w i) is
due_on f i j m w is ne h7 = grind (arith, others_next, contains_head)

-- and so it is after a fair round
pub due_now : (f : At → ℕ) (j m : ℕ) (w : State) (is : List ℕ) → IsSafe w → IsFairRound w is →
    (0 < f (point_of w j) → IsSteady (point_of w j)) → f (point_of w j) ≤ suc m → Due f j m w is
due_now f j m w is s r steady le = grind (arith, steady-ne-Rest, steady_enabled)

module _ (n p : ℕ) where
  pub taken_run : (is : List ℕ) (w : State) → StaysPending n p w is → IsSchedule n is → w.y ≢ 0 →
      (run w is).y ≢ 0
  taken_run [] w c s ne = ne
  taken_run (i ∷ is) w c s ne = grind (arith, taken_from, taken_run is)

  pub pending_now : (is : List ℕ) (w : State) → StaysPending n p w is → Pending n p w
  pending_now [] w c = c
  pending_now (i ∷ is) w c = c.0

  pub pending_end : (is : List ℕ) (w : State) → StaysPending n p w is → Pending n p (run w is)
  pending_end [] w c = c
  pending_end (i ∷ is) w c = pending_end is (next w i) c.1

  pub settles_next : (i : ℕ) (is : List ℕ) (w : State) → StaysPending n p w (i ∷ is) →
      IsProcess n i →
      w.y ≡ 0 →
      ((next w i).y ≢ 0) ⊎ (unsettled (point_of (next w i) i) ≤ unsettled (point_of w i) - 1)
  settles_next i is w c q z = grind (arith, at_Q, inside_Q, pending_now)

  settles_run : (j m : ℕ) (is : List ℕ) (w : State) → StaysPending n p w is → IsSchedule n is →
      Due unsettled j m w is → ((run w is).y ≢ 0) ⊎ (unsettled (point_of (run w is) j) ≤ m)
  settles_run j m [] w c s (inl h) = inr h
  settles_run j m [] w c s (inr h) = absurd (let lt = h.1.1 in omega arith)
  settles_run j m (i ∷ is) w c s d = elim (cases_eq w.y 0) [
    | inr ne ↦ inl (taken_run (i ∷ is) w c s ne)
    | inl z ↦ elim (cases_eq j i) [
      | inr ne ↦ settles_run j m is (next w i) c.1 s.1 (due_on unsettled i j m w is ne d)
      | inl e ↦ elim (settles_next i is w c s.0 z) [
        | inl ne ↦ inl (taken_run is (next w i) c.1 s.1 ne)
        | inr h ↦
            let le = due-le unsettled j m w (i ∷ is) d in
            let least : unsettled (point_of w i) ≤ suc m =
            subst (λ k. unsettled (point_of w k) ≤ suc m) e le in
            settles_run j m is (next w i) c.1 s.1
            (inl (subst (λ k. unsettled (point_of (next w i) k) ≤ m) (sym e) (omega arith)))
      ]
    ]
  ]

  -- a fair round reduces the steps by one
  pub settles_round : (m : ℕ) (is : List ℕ) (w : State) → StaysPending n p w is → IsSchedule n is →
      IsFairRound w is → Settled (suc m) w → Settled m (run w is)
  settles_round m is w c s r (inl ne) = inl (taken_run is w c s ne)
  settles_round m is w c s r (inr le) = elim (cases_eq (run w is).y 0) [
    | inr ne ↦ inl ne
    | inl z ↦ inr (λ j. elim (settles_run j m is w c s
        (due_now unsettled j m w is (pending_now is w c).sound.safe r
        (unsettled_steady (point_of w j)) (le j))) [
          | inl ne ↦ absurd (ne z)
          | inr h ↦ h
        ])
  ]
