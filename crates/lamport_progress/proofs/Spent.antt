-- What x says once y is not 0. The last process that stored to x has not moved past its own store
-- to y, so either it is the process that y names, or the two of them have spent their flags: within
-- two fair rounds they delay no scan for more than one step.
use Rattle.std.proofs.Common.{◌≡◌, ◌≢◌, ◌==◌, ◌<◌, ◌≤◌, ◌+◌, ◌-◌, ◌*◌, ◌⊎◌, ℕ, zero, suc, Bool, cond, List, [], ◌∷◌, length, sym, ap, ◌∙◌, subst, inl, inr, arith}
use Rattle.std.specs.List.{Contains, sum_by}
use Rattle.std.proofs.lemmas.Bool.{cases_eq, eq-eqb, ne_eqb}
use Rattle.lamport_core.specs.State.{State, IsProcess, IsSchedule, IsInside, IsInsidePoint, process_count, point_of, next, run, step_from, with_process, of_process, after_TestY}
use Rattle.lamport_core.specs.Line.{IsLine}
use Rattle.lamport_core.proofs.LineSteps.{next_line}
use Rattle.lamport_core.proofs.Worlds.{of-with_same}
use Rattle.lamport_progress.specs.Progress.{IsFairRound}
use Rattle.lamport_progress.proofs.Enabled.{IsSteady, steady_enabled, steady-ne-Rest}
use Rattle.lamport_progress.proofs.Rounds.{Pending, others_from, others_next, contains_head, taken_from}
use Rattle.lamport_progress.proofs.Sums.{two_less}
use Rattle.lamport_progress.proofs.Clear.{clear}
use Rattle.lamport_progress.proofs.Settled.{StaysPending, Due, due-le, due_on, due_now, pending_now}
use Rattle.lamport_core.specs.declared.At.{At}
use Rattle.lamport_core.specs.declared.At.TheVariants.{Rest, Start, SetX, TestY, BackB, AwaitY, SetY, TestX, SlowB, Scan, SlowY, SlowAwait, Fast, Slow, Leaving}

-- a point after the process's store to x, and before its store to y
abbrev pub IsClaim : At → Type 0
IsClaim TestY = Unit {0}
IsClaim SetY = Unit {0}
IsClaim _ = ⊥

-- the steps of a process that has stored to x until its flag is down, while y is not 0; 4 for
-- others
abbrev pub level : At → ℕ
level Rest = 4
level Start = 4
level SetX = 4
level TestY = 2
level BackB = 1
level AwaitY = 0
level SetY = 3
level TestX = 2
level SlowB = 1
level (Scan j) = 0
level SlowY = 0
level SlowAwait = 0
level Fast = 4
level Slow = 4
level Leaving = 4

-- while y is 0: if some process is about to store to y, so is the last one that stored to x
abbrev pub Claimed : State → Type 0
Claimed w = (j : ℕ) → IsClaim (point_of w j) → IsClaim (point_of w w.x)

-- the next step of the process that y names takes it into its critical section
abbrev pub IsFirst : State → Type 0
IsFirst w = (w.x ≡ w.y) × (point_of w w.y ≡ TestX)

-- two processes, with at most la and lb steps left until their flags are down
pub record Spent (la lb : ℕ) (w : State) : Type 0 where
  pub a : ℕ
  pub b : ℕ
  pub differ : a ≢ b
  pub first : level (point_of w a) ≤ la
  pub second : level (point_of w b) ≤ lb

abbrev pub Taken : State → Type 0
Taken w = IsFirst w ⊎ Spent 2 3 w

abbrev pub Stage : State → Type 0
Stage w = ((w.y ≡ 0) × Claimed w) ⊎ ((w.y ≢ 0) × Taken w)

claim_level : (P : At) → IsClaim P → level P ≤ 3
claim_level P h = grind arith

-- process i moves from P to Q, neither of which is a claim, and x does not change
keep_claimed : (w v : State) (i : ℕ) (P Q : At) → point_of w i ≡ P → point_of v i ≡ Q →
    ((j : ℕ) → j ≢ i → point_of v j ≡ point_of w j) → v.x ≡ w.x → (IsClaim P → ⊥) →
    (IsClaim Q → ⊥) → Claimed w → Claimed v
keep_claimed w v i P Q at to others x np nq c j h = elim (cases_eq j i) [
  | inl e ↦ absurd (nq (subst IsClaim to (subst (λ k. IsClaim (point_of v k)) e h)))
  | inr ne ↦
      let old = c j (subst IsClaim (others j ne) h) in
      subst (λ k. IsClaim (point_of v k)) (sym x) (elim (cases_eq w.x i) [
        | inl e ↦ absurd (np (subst IsClaim at (subst (λ k. IsClaim (point_of w k)) e old)))
        | inr nx ↦ subst IsClaim (sym (others w.x nx)) old
      ])
]

module _ (w : State) (i : ℕ) (there : IsProcess (length w.points) i) where
  at_Q : (Q : At) → of_process Rest (with_process w.points i Q) i ≡ Q
  at_Q Q = of-with_same Rest w.points i Q there

  -- a step from P to Q that changes neither x nor y, while y is 0
  plain : (P Q : At) → point_of w i ≡ P → w.y ≡ 0 → (IsClaim P → ⊥) → (IsClaim Q → ⊥) →
      point_of (step_from P w i) i ≡ Q → (step_from P w i).x ≡ w.x → (step_from P w i).y ≡ w.y →
      Claimed w → Stage (step_from P w i)
  plain P Q at z np nq to x y c = inl (
    y ∙ z,
    keep_claimed w (step_from P w i) i P Q at to (λ j ne. others_from P w i j ne) x np nq c,
  )

  -- the store to y
  store_y : point_of w i ≡ SetY → Claimed w → Stage (step_from SetY w i)
  store_y at c = inr (
    (λ e. omega arith),
    elim (cases_eq w.x i) [
      | inl e ↦ inl (e, at_Q TestX)
      | inr ne ↦ inr (record {
        a = i;
        b = w.x;
        differ = λ e. ne (sym e);
        first = subst (λ P. level P ≤ 2) (sym (at_Q TestX)) (omega arith);
        second = subst (λ P. level P ≤ 3) (sym (others_from SetY w i w.x ne))
            (claim_level (point_of w w.x) (c i (subst IsClaim (sym at) tt)));
      })
    ],
  )

  -- a load of y that finds 0
  test_y : point_of w i ≡ TestY → w.y ≡ 0 → Claimed w → Stage (step_from TestY w i)
  test_y at z c = inl (
    z,
    λ j h. elim (cases_eq w.x i) [
      | inl e ↦ subst (λ k. IsClaim (point_of (step_from TestY w i) k)) (sym e)
          (subst IsClaim (sym (at_Q (after_TestY w.y)))
          (subst (λ t. IsClaim (cond t SetY BackB)) (sym (eq-eqb w.y 0 z)) tt))
      | inr ne ↦ subst IsClaim (sym (others_from TestY w i w.x ne))
          (c i (subst IsClaim (sym at) tt))
    ],
  )

  free_from : (P : At) → point_of w i ≡ P → w.y ≡ 0 → (IsInsidePoint P → ⊥) → Claimed w →
      Stage (step_from P w i)
  free_from P at z out c = grind (arith, plain, at_Q, test_y, store_y)

  -- the level of a process after its step, while y is not 0
  abbrev Leaves : ℕ → State → Type 0
  Leaves m v = IsInside v i ⊎ (level (point_of v i) ≤ m)

  level_Q : (m : ℕ) (Q : At) → level Q ≤ m →
      level (of_process Rest (with_process w.points i Q) i) ≤ m
  level_Q m Q le = subst (λ a. level a ≤ m) (sym (at_Q Q)) le

  inside_Q : (Q : At) → IsInsidePoint Q →
      IsInsidePoint (of_process Rest (with_process w.points i Q) i)
  inside_Q Q h = subst IsInsidePoint (sym (at_Q Q)) h

  taken_load : (Q R : At) (m : ℕ) → w.y ≢ 0 → level R ≤ m → level (cond (w.y == 0) Q R) ≤ m
  taken_load Q R m ne le = subst (λ t. level (cond t Q R) ≤ m) (sym (ne_eqb w.y 0 ne)) le

  scan : (j : ℕ) (f t : Bool) → level (cond f (Scan j) (cond t SlowY (Scan (j + 1)))) ≤ 0
  scan j f t = grind arith

  -- a step of a process other than the one that y names, which is about to enter its critical
  -- section
  abbrev AfterFirst : State → Type 0
  AfterFirst v = (IsFirst v × (v.y ≡ w.y)) ⊎ ((level (point_of v i) ≤ 2) × (point_of v w.y ≡ TestX))

  first_from : (P : At) → (IsInsidePoint P → ⊥) → w.y ≢ i → IsFirst w → AfterFirst (step_from P w i)
  first_from P out ne f = grind (arith, level_Q, others_from)

  -- and its own step
  first_enters : IsFirst w → w.y ≡ i → IsInside (next w i) i
  first_enters f e = grind (arith, inside_Q)

level_steady : (P : At) → level P ≤ 3 → 0 < level P → IsSteady P
level_steady P le lt = grind arith

-- a process comes to Leaving only from its critical section
few_line : (n : ℕ) (P Q : At) → IsLine n P Q → (IsInsidePoint P → ⊥) → clear Q ≤ 4
few_line n P Q l out = grind arith

abbrev pub NoneLeaves : State → Type 0
NoneLeaves w = (j : ℕ) → clear (point_of w j) ≤ 4

module _ (n p : ℕ) where
  module _ (i : ℕ) (is : List ℕ) (w : State) (c : StaysPending n p w (i ∷ is))
      (q : IsProcess n i) where
    there : IsProcess (length w.points) i
    there = subst (λ m. IsProcess m i) (sym (c.0.sound.safe.same_count ∙ c.0.sound.counts)) q

    level_next : w.y ≢ 0 → level (point_of w i) ≤ 3 →
        level (point_of (next w i) i) ≤ level (point_of w i) - 1
    level_next ne le = grind (arith, level_Q, taken_load, inside_Q, scan, there, pending_now)

    still_taken : w.y ≢ 0 → (next w i).y ≢ 0
    still_taken = taken_from (point_of w i) w i q.0 (λ h. c.0.outside (i, h))

    level_on : (j m : ℕ) → m ≤ 3 → w.y ≢ 0 → level (point_of w j) ≤ m →
        level (point_of (next w i) j) ≤ m
    level_on j m few ne le = grind (arith, others_next, level_next)

    spent_on : Spent 2 3 w → w.y ≢ 0 → Spent 2 3 (next w i)
    spent_on s ne = grind (arith, level_on)

    first_next : w.y ≢ i → IsFirst w → AfterFirst w i there (next w i)
    first_next = first_from w i there (point_of w i) (λ h. c.0.outside (i, h))

    first_other : IsFirst w → w.y ≢ i
    first_other f e = (pending_now n p is (next w i) c.1).outside (i, first_enters w i there f e)

    first_on : IsFirst w → Taken (next w i)
    first_on f = elim (first_next (first_other f) f) [
      | inl g ↦ inl g.0
      | inr g ↦ inr (record {
        a = w.y;
        b = i;
        differ = first_other f;
        first = subst (λ P. level P ≤ 2) (sym g.1) (omega arith);
        second = let le = g.0 in omega arith;
      })
    ]

    stage_next : Stage w → Stage (next w i)
    stage_next h0 = grind (arith, free_from, there, still_taken, first_on, spent_on)

    none_next : NoneLeaves w → NoneLeaves (next w i)
    none_next u j = elim (cases_eq j i) [
      | inr other ↦ subst (λ a. clear a ≤ 4) (sym (others_next w i j other)) (u j)
      | inl e ↦ subst (λ k. clear (point_of (next w i) k) ≤ 4) (sym e)
          (few_line (process_count w) (point_of w i) (point_of (next w i) i)
          (next_line w i c.0.sound.safe (subst (λ m. IsProcess m i) (sym c.0.sound.counts) q))
          (λ h. c.0.outside (i, h)))
    ]

  pub stage_run : (is : List ℕ) (w : State) → StaysPending n p w is → IsSchedule n is → Stage w →
      Stage (run w is)
  stage_run [] w c s h = h
  stage_run (i ∷ is) w c s h = stage_run is (next w i) c.1 s.1 (stage_next i is w c s.0 h)

  pub none_run : (is : List ℕ) (w : State) → StaysPending n p w is → IsSchedule n is →
      NoneLeaves w →
      NoneLeaves (run w is)
  none_run [] w c s u = u
  none_run (i ∷ is) w c s u = none_run is (next w i) c.1 s.1 (none_next i is w c s.0 u)

  levels_run : (j m : ℕ) (is : List ℕ) (w : State) → suc m ≤ 3 → StaysPending n p w is →
      IsSchedule n is → w.y ≢ 0 → Due level j m w is → level (point_of (run w is) j) ≤ m
  levels_run j m [] w few c s ne (inl h) = h
  levels_run j m [] w few c s ne (inr h) = absurd (let lt = h.1.1 in omega arith)
  levels_run j m (i ∷ is) w few c s ne d = levels_run j m is (next w i) few c.1 s.1
      (still_taken i is w c s.0 ne) (elim (cases_eq j i) [
        | inr other ↦ due_on level i j m w is other d
        | inl e ↦
            let own : level (point_of w i) ≤ suc m =
            subst (λ k. level (point_of w k) ≤ suc m) e (due-le level j m w (i ∷ is) d) in
            let h = level_next i is w c s.0 ne (omega arith) in
            inl (subst (λ k. level (point_of (next w i) k) ≤ m) (sym e) (omega arith))
      ])

  level_round : (j m : ℕ) (is : List ℕ) (w : State) → suc m ≤ 3 → StaysPending n p w is →
      IsSchedule n is → IsFairRound w is → w.y ≢ 0 → level (point_of w j) ≤ suc m →
      level (point_of (run w is) j) ≤ m
  level_round j m is w few c s r ne le = levels_run j m is w few c s ne
      (due_now level j m w is (pending_now n p is w c).sound.safe r
      (level_steady (point_of w j) (omega arith)) le)

  pub spent_round : (la lb : ℕ) (is : List ℕ) (w : State) → suc la ≤ 3 → suc lb ≤ 3 →
      StaysPending n p w is → IsSchedule n is → IsFairRound w is → w.y ≢ 0 →
      Spent (suc la) (suc lb) w → Spent la lb (run w is)
  spent_round la lb is w fa fb c s r ne h = grind (arith, level_round)

  first_run : (is : List ℕ) (w : State) → StaysPending n p w is → IsSchedule n is → w.y ≢ 0 →
      IsFirst w → Contains is w.y → Spent 1 2 (run w is)
  first_run [] w c s ne f t = absurd (let lt = t.1 in omega arith)
  first_run (i ∷ is) w c s ne f t =
      let other = first_other i is w c s.0 f in
      let v = still_taken i is w c s.0 ne in
      elim (contains_head i w.y is t.0 t.1 t.2) [
        | inl e ↦ absurd (other (sym e))
        | inr u ↦ elim (first_next i is w c s.0 other f) [
          | inl g ↦ first_run is (next w i) c.1 s.1 v g.0 (subst (Contains is) (sym g.1) u)
          | inr g ↦ record {
            a = w.y;
            b = i;
            differ = other;
            first = levels_run w.y 1 is (next w i) (omega arith) c.1 s.1 v
                (inr (subst (λ P. level P ≤ 2) (sym g.1) (omega arith), u));
            second = levels_run i 2 is (next w i) (omega arith) c.1 s.1 v (inl g.0);
          }
        ]
      ]

  pub taken_round : (is : List ℕ) (w : State) → StaysPending n p w is → IsSchedule n is →
      IsFairRound w is → w.y ≢ 0 → Taken w → Spent 1 2 (run w is)
  taken_round is w c s r ne h6 =
      grind (arith, spent_round, first_run, steady-ne-Rest, steady_enabled, pending_now)

clear_level : (P : At) → level P ≤ 3 → clear P ≤ level P
clear_level P h = grind arith

level-ne-Rest : (P : At) → level P ≤ 3 → P ≢ Rest
level-ne-Rest P h e = let le = subst (λ a. level a ≤ 3) e h in absurd (omega arith)

-- two processes with one step left keep the sum low
pub spent_sum : (n p : ℕ) (w : State) → Pending n p w → NoneLeaves w → Spent 0 1 w →
    (2 ≤ n) × (sum_by clear w.points + 7 ≤ 4 * n)
spent_sum n p w c u s = from s.a s.b s.differ
    (numbered s.a (level-ne-Rest (point_of w s.a) (let h = s.first in omega arith)))
    (numbered s.b (level-ne-Rest (point_of w s.b) (let h = s.second in omega arith)))
    (let h = s.first in let g = clear_level (point_of w s.a) (omega arith) in omega arith)
    (let h = s.second in let g = clear_level (point_of w s.b) (omega arith) in omega arith)
  where
    numbered : (j : ℕ) → point_of w j ≢ Rest → IsProcess n j
    numbered j ne = subst (λ m. IsProcess m j) c.sound.counts (c.sound.safe.safe.process j ne)

    points : length w.points ≡ n
    points = c.sound.safe.same_count ∙ c.sound.counts

    from : (a b : ℕ) → a ≢ b → IsProcess n a → IsProcess n b → clear (point_of w a) ≤ 0 →
        clear (point_of w b) ≤ 1 → (2 ≤ n) × (sum_by clear w.points + 7 ≤ 4 * n)
    from zero b ne qa qb ha hb = absurd (omega arith)
    from (suc a) zero ne qa qb ha hb = absurd (omega arith)
    from (suc a) (suc b) ne qa qb ha hb =
        let other : a ≢ b = λ e. ne (ap suc e) in (
          omega arith,
          omega (
            arith,
            points,
            two_less clear 4 w.points a b (omega (arith, points)) (omega (arith, points)) other
                (λ l. u (suc l)),
          ),
        )
