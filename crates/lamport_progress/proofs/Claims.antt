-- While y is 0 and each process is settled, the process that is closest to its store to y waits for
-- no flag. So each fair round takes a process one step closer to it.
use Rattle.std.proofs.Common.{◌≡◌, ◌≢◌, ◌==◌, ◌<◌, ◌≤◌, ◌+◌, ◌-◌, ◌⊎◌, ℕ, suc, Bool, true, false, cond, List, [], ◌∷◌, length, refl, sym, ◌∙◌, subst, inl, inr, arith}
use Rattle.std.specs.List.{Contains}
use Rattle.std.proofs.lemmas.Bool.{cases_eq, eq-eqb}
use Rattle.lamport_core.specs.State.{State, IsProcess, IsSchedule, IsInsidePoint, process_count, point_of, next, run, step_from, with_process, of_process, after_Scan, flag_of}
use Rattle.lamport_core.specs.Safe.{IsPoint, FlagFits}
use Rattle.lamport_core.proofs.Worlds.{of-with_same}
use Rattle.lamport_progress.specs.Progress.{IsFairRound, IsEnabled, IsEntering}
use Rattle.lamport_progress.proofs.Enabled.{free_enabled, down_enabled, at_zero_free}
use Rattle.lamport_progress.proofs.Rounds.{Pending, others_next, contains_head}
use Rattle.lamport_progress.proofs.Settled.{unsettled, StaysPending, settles_next, taken_run, pending_now}
use Rattle.lamport_core.specs.declared.At.{At}
use Rattle.lamport_core.specs.declared.At.TheVariants.{Rest, Start, SetX, TestY, AwaitY, SetY, Scan, SlowY, SlowAwait}

-- the steps of a settled process in its entry until it is about to store to y
abbrev pub claim_rank : ℕ → At → ℕ
claim_rank n Start = 3
claim_rank n SetX = 2
claim_rank n TestY = 1
claim_rank n AwaitY = 4
claim_rank n SetY = 0
claim_rank n (Scan j) = n + 6 - j
claim_rank n SlowY = 5
claim_rank n SlowAwait = 4
claim_rank n _ = n + 6

-- some process has fewer than m steps left
abbrev pub Low : ℕ → ℕ → State → Type 0
Low n m w = (q : ℕ) × (claim_rank n (point_of w q) < m)

abbrev pub AllSettled : State → Type 0
AllSettled w = (j : ℕ) → unsettled (point_of w j) ≤ 0

-- a point from which a process always moves
abbrev IsGoing : (ℕ → Bool) → At → Type 0
IsGoing b Start = Unit {0}
IsGoing b SetX = Unit {0}
IsGoing b TestY = Unit {0}
IsGoing b AwaitY = Unit {0}
IsGoing b SetY = Unit {0}
IsGoing b (Scan j) = b j ≡ false
IsGoing b SlowY = Unit {0}
IsGoing b SlowAwait = Unit {0}
IsGoing b _ = ⊥

module _ (w : State) (i : ℕ) (there : IsProcess (length w.points) i) (z : w.y ≡ 0) where
  abbrev n : ℕ
  n = process_count w

  -- what remains after a step of process i to v, of at most m
  abbrev Leaves : ℕ → State → Type 0
  Leaves m v = (v.y ≢ 0) ⊎ (claim_rank n (point_of v i) ≤ m)

  at_Q : (m : ℕ) (Q : At) → claim_rank n Q ≤ m →
      claim_rank n (of_process Rest (with_process w.points i Q) i) ≤ m
  at_Q m Q le = subst (λ a. claim_rank n a ≤ m) (sym (of-with_same Rest w.points i Q there)) le

  free_load : (Q R : At) (m : ℕ) → claim_rank n Q ≤ m → claim_rank n (cond (w.y == 0) Q R) ≤ m
  free_load Q R m le = subst (λ t. claim_rank n (cond t Q R) ≤ m) (sym (eq-eqb w.y 0 z)) le

  scan : (j : ℕ) (f : Bool) → IsProcess n j → claim_rank n (after_Scan n j f) ≤ n + 6 - j
  scan j f r = grind arith

  -- no step increases the distance
  keeps_from : (P : At) → IsPoint n P → (IsInsidePoint P → ⊥) →
      Leaves (claim_rank n P) (step_from P w i)
  keeps_from P h out = grind (arith, at_Q, free_load, scan)

-- a settled process with its flag up is close to its store
up_low : (n : ℕ) (P : At) → FlagFits P true → (IsInsidePoint P → ⊥) → unsettled P ≤ 0 →
    claim_rank n P < 3
up_low n P f out u = grind arith

-- each process is settled, or some process is so close that it meets no scan
abbrev pub Unblocked : ℕ → State → Type 0
Unblocked m w = AllSettled w ⊎ (m ≤ 1)

module _ (n p : ℕ) (m : ℕ) (most : suc m ≤ n + 6) where
  module _ (w : State) (c : Pending n p w) where
    scan_going : (j k : ℕ) (f : Bool) → flag_of w k ≡ f → IsProcess n k → n + 6 - k < suc m →
        Unblocked m w → Low n m w ⊎ (flag_of w k ≡ false)
    scan_going j k false e q lt u = inr e
    scan_going j k true e q lt (inr few) = absurd (omega arith)
    scan_going j k true e q lt (inl u) = inl (
      k,
      let low = up_low n (point_of w k) (subst (λ b. FlagFits (point_of w k) b) e
          (c.sound.safe.safe.flag k))
          (λ h. c.outside (k, h)) (u k) in omega arith,
    )

    -- a process of this rank moves, or waits for one that is closer
    going : (j : ℕ) (P : At) → IsPoint n P → claim_rank n P < suc m → Unblocked m w →
        Low n m w ⊎ IsGoing (flag_of w) P
    going j (Scan k) h lt u = scan_going j k (flag_of w k) refl h lt u
    going j P h lt u = grind arith

    going_point : (j : ℕ) → claim_rank n (point_of w j) < suc m → Unblocked m w →
        Low n m w ⊎ IsGoing (flag_of w) (point_of w j)
    going_point j = going j (point_of w j)
        (subst (λ k. IsPoint k (point_of w j)) c.sound.counts (c.sound.safe.safe.point j))

    going-ne-Rest : (P : At) → IsGoing (flag_of w) P → P ≢ Rest
    going-ne-Rest P g e = subst (IsGoing (flag_of w)) e g

    going_enabled : (j : ℕ) (P : At) → w.y ≡ 0 → point_of w j ≡ P → IsGoing (flag_of w) P →
        IsEnabled w j
    going_enabled j (Scan k) z at g = down_enabled w c.sound.safe j k g at
    going_enabled j P z at g = free_enabled w c.sound.safe j P at
        (at_zero_free w.y P z (going-ne-Rest P g)) (λ k e. cc)

  module _ (i : ℕ) (is : List ℕ) (w : State) (c : StaysPending n p w (i ∷ is)) (q : IsProcess n i)
      (z : w.y ≡ 0) where
    there : IsProcess (length w.points) i
    there = subst (λ k. IsProcess k i) (sym (c.0.sound.safe.same_count ∙ c.0.sound.counts)) q

    -- the next world, in which y is not 0 or this holds
    abbrev Or : Type 0 → Type 0
    Or A = ((next w i).y ≢ 0) ⊎ A

    keeps_next : Or (claim_rank n (point_of (next w i) i) ≤ claim_rank n (point_of w i))
    keeps_next = subst
        (λ k. ((next w i).y ≢ 0) ⊎ (claim_rank k (point_of (next w i) i) ≤ claim_rank k
        (point_of w i)))
        c.0.sound.counts
        (keeps_from w i there z (point_of w i) (c.0.sound.safe.safe.point i)
        (λ h. c.0.outside (i, h)))

    lowers_next : IsGoing (flag_of w) (point_of w i) →
        Or (claim_rank n (point_of (next w i) i) ≤ claim_rank n (point_of w i) - 1)
    lowers_next g = grind (arith, at_Q, free_load, there)

    low_next : Low n m w → Or (Low n m (next w i))
    low_next l = elim (cases_eq l.0 i) [
      | inr ne ↦ inr (l.0, subst (λ a. claim_rank n a < m) (sym (others_next w i l.0 ne)) l.1)
      | inl e ↦ elim keeps_next [
        | inl ne ↦ inl ne
        | inr le ↦ inr (
          i,
          let lt = subst (λ k. claim_rank n (point_of w k) < m) e l.1 in
              omega arith,
        )
      ]
    ]

    settled_next : AllSettled w → Or (AllSettled (next w i))
    settled_next u = elim (settles_next n p i is w c q z) [
      | inl ne ↦ inl ne
      | inr le ↦ inr (λ j. elim (cases_eq j i) [
        | inl e ↦ subst (λ k. unsettled (point_of (next w i) k) ≤ 0) (sym e) (let h = u i in
            omega arith)
        | inr ne ↦ subst (λ a. unsettled a ≤ 0) (sym (others_next w i j ne)) (u j)
      ])
    ]

    unblocked_next : Unblocked m w → Or (Unblocked m (next w i))
    unblocked_next h0 = grind (arith, settled_next)

  -- some process has fewer than m steps left, or m of them and it takes a step
  abbrev LowDue : State → List ℕ → Type 0
  LowDue w is = Low n m w ⊎ ((j : ℕ) × (claim_rank n (point_of w j) < suc m) × Contains is j)

  due_next : (i : ℕ) (is : List ℕ) (w : State) → StaysPending n p w (i ∷ is) → IsProcess n i →
      w.y ≡ 0 → Unblocked m w → LowDue w (i ∷ is) → ((next w i).y ≢ 0) ⊎ LowDue (next w i) is
  due_next i is w c q z u (inl l) =
      elim (low_next i is w c q z l) [ inl ne ↦ inl ne | inr h ↦ inr (inl h) ]
  due_next i is w c q z u (inr d) = elim (cases_eq d.0 i) [
    | inr ne ↦ elim (contains_head i d.0 is d.2.0 d.2.1 d.2.2) [
      | inl e ↦ absurd (ne (sym e))
      | inr t ↦
          inr (inr (d.0, subst (λ a. claim_rank n a < suc m) (sym (others_next w i d.0 ne)) d.1, t))
    ]
    | inl e ↦
        let lt : claim_rank n (point_of w i) < suc m =
        subst (λ k. claim_rank n (point_of w k) < suc m) e d.1 in
        elim (going_point w c.0 i lt u) [
          | inl l ↦ elim (low_next i is w c q z l) [ inl ne ↦ inl ne | inr h ↦ inr (inl h) ]
          | inr g ↦ elim (lowers_next i is w c q z g) [
            | inl ne ↦ inl ne
            | inr le ↦ first (claim_rank n (point_of w i)) refl lt le
          ]
        ]
  ]
    where
      first : (k : ℕ) → claim_rank n (point_of w i) ≡ k → k < suc m →
          claim_rank n (point_of (next w i) i) ≤ k - 1 → ((next w i).y ≢ 0) ⊎ LowDue (next w i) is
      first k e lt le = elim (cases_eq m 0) [
        | inr some ↦ inr (inl (i, omega arith))
        | inl none ↦ inl (store (point_of w i) refl (omega arith))
      ]
        where
          store : (P : At) → point_of w i ≡ P → claim_rank n P ≤ 0 → (step_from P w i).y ≢ 0
          store SetY at le = λ e. omega arith
          store (Scan j) at le = absurd (let h = subst (λ k. IsPoint k (Scan j)) c.0.sound.counts
              (subst (IsPoint (process_count w)) at (c.0.sound.safe.safe.point i)) in omega arith)
          store _ at le = absurd (omega arith)

  advance_run : (is : List ℕ) (w : State) → StaysPending n p w is → IsSchedule n is →
      Unblocked m w →
      LowDue w is → ((run w is).y ≢ 0) ⊎ Low n m (run w is)
  advance_run [] w c s u (inl l) = inr l
  advance_run [] w c s u (inr d) = absurd (let lt = d.2.1 in omega arith)
  advance_run (i ∷ is) w c s u d = elim (cases_eq w.y 0) [
    | inr ne ↦ inl (taken_run n p (i ∷ is) w c s ne)
    | inl z ↦ elim (unblocked_next i is w c s.0 z u) [
      | inl ne ↦ inl (taken_run n p is (next w i) c.1 s.1 ne)
      | inr v ↦ elim (due_next i is w c s.0 z u d) [
        | inl ne ↦ inl (taken_run n p is (next w i) c.1 s.1 ne)
        | inr e ↦ advance_run is (next w i) c.1 s.1 v e
      ]
    ]
  ]

  -- a fair round reduces the steps by one, or y is not 0
  pub advance_round : (is : List ℕ) (w : State) → StaysPending n p w is → IsSchedule n is →
      IsFairRound w is → w.y ≡ 0 → Unblocked m w → Low n (suc m) w →
      ((run w is).y ≢ 0) ⊎ Low n m (run w is)
  advance_round is w c s r z u l =
      let now = pending_now n p is w c in
      elim (going_point w now l.0 l.1 u) [
        | inl low ↦ advance_run is w c s u (inl low)
        | inr g ↦ advance_run is w c s u (inr (
          l.0,
          l.1,
          r l.0 (going-ne-Rest w now (point_of w l.0) g)
              (going_enabled w now l.0 (point_of w l.0) z refl g),
        ))
      ]

-- a settled process in its entry has a rank
pub entering_low : (n : ℕ) (P : At) → IsPoint n P → IsEntering P → unsettled P ≤ 0 →
    claim_rank n P < n + 6
entering_low n P q h u = grind arith
