-- In how many fair rounds some process enters its critical section. Let some process be in its
-- entry, and none in its critical section. After two rounds the processes are settled, after n + 6
-- one stores to y, after two more it starts its scan, and the scan takes at most 5n - 6: its n
-- flags, and 4 for each other process but one, whose flag is spent.
use Rattle.std.proofs.Common.{◌≡◌, ◌≢◌, ◌<◌, ◌≤◌, ◌+◌, ◌*◌, ◌⊎◌, ℕ, zero, suc, List, [], ◌∷◌, length, get_or, subst, inl, inr, arith}
use Rattle.std.proofs.lemmas.Bool.{cases_eq}
use Rattle.std.specs.List.{concat, sum_by}
use Rattle.lamport_core.specs.State.{State, Reach, process_count, point_of, run}
use Rattle.lamport_core.specs.Safe.{IsPoint}
use Rattle.lamport_progress.specs.Progress.{IsEntering, AreFairRounds, Enters, round_bound}
use Rattle.lamport_progress.proofs.Work.{reach_sound}
use Rattle.lamport_progress.proofs.Enabled.{steady_enabled}
use Rattle.lamport_progress.proofs.Rounds.{Pending, rounds_lead}
use Rattle.lamport_progress.proofs.Sums.{total_le}
use Rattle.lamport_progress.proofs.Clear.{clear, clear-le, storing_count, owner-le, fair_measure}
use Rattle.lamport_progress.proofs.Helping.{Helps, fair}
use Rattle.lamport_progress.proofs.Settled.{Settled, unsettled, settled_two, settles_round, pending_end, taken_run}
use Rattle.lamport_progress.proofs.Claims.{claim_rank, Low, AllSettled, advance_round, entering_low}
use Rattle.lamport_progress.proofs.Spent.{IsClaim, Claimed, Spent, Taken, Stage, NoneLeaves, stage_run, none_run, taken_round, spent_round, spent_sum}
use Rattle.lamport_progress.proofs.Entries.{find_point, occupied_or_not, leads_enters, pending_all, inside-ne-Rest, inside_steady, first_round, enters-append, enters_later, schedule_concat}
use Rattle.lamport_core.specs.declared.At.{At}
use Rattle.lamport_core.specs.declared.At.TheVariants.{Rest}

pending_some : (n p : ℕ) (w : State) → Pending n p w → 1 ≤ n
pending_some n p w c = grind arith

-- the rule of fair rounds, while y is not 0
measure_rounds : (n p : ℕ) (w : State) (rounds : List (List ℕ)) → Pending n p w → w.y ≢ 0 →
    AreFairRounds n w rounds → sum_by clear w.points + n < length rounds →
    Enters w (concat rounds)
measure_rounds n p w rounds c ne a le =
    let counts = c.sound.counts in
    let few = owner-le (storing_count w.points) (process_count w) (point_of w w.y) in
    leads_enters n p (concat rounds) w c (schedule_concat n w rounds a)
    (rounds_lead n p fair_measure Helps (fair n p) rounds w (record { pending = c; taken = ne })
    a (omega arith))

taken_rounds : (n p : ℕ) (w : State) (rounds : List (List ℕ)) → Pending n p w → w.y ≢ 0 →
    AreFairRounds n w rounds → 6 * n < length rounds → Enters w (concat rounds)
taken_rounds n p w rounds c ne a le = measure_rounds n p w rounds c ne a (omega (
  arith,
  c.sound.safe.same_count,
  c.sound.counts,
  total_le clear 5 w.points clear-le,
))

spent_rounds : (n p : ℕ) (w : State) (rounds : List (List ℕ)) → Pending n p w → w.y ≢ 0 →
    NoneLeaves w → Spent 0 1 w → AreFairRounds n w rounds → 5 * n ≤ length rounds + 6 →
    Enters w (concat rounds)
spent_rounds n p w rounds c ne u s a le =
    let few = spent_sum n p w c u s in measure_rounds n p w rounds c ne a (omega arith)

second_rounds : (n p : ℕ) (w : State) (rounds : List (List ℕ)) → Pending n p w → w.y ≢ 0 →
    NoneLeaves w → Spent 1 2 w → AreFairRounds n w rounds → 5 * n ≤ length rounds + 5 →
    Enters w (concat rounds)
second_rounds n p w [] c ne u s a le = grind arith
second_rounds n p w (is ∷ rounds) c ne u s a le = elim (pending_all n p is w c a.0) [
  | inl g ↦ enters-append w is (concat rounds) g
  | inr all ↦ enters_later w is (concat rounds) (spent_rounds n p (run w is) rounds
      (pending_end n p is w all) (taken_run n p is w all a.0 ne) (none_run n p is w all a.0 u)
      (spent_round n p 0 1 is w (omega arith) (omega arith) all a.0 a.1 ne s) a.2 (omega arith))
]

first_rounds : (n p : ℕ) (w : State) (rounds : List (List ℕ)) → Pending n p w → w.y ≢ 0 →
    NoneLeaves w → Taken w → AreFairRounds n w rounds → 1 ≤ n → 5 * n ≤ length rounds + 4 →
    Enters w (concat rounds)
first_rounds n p w [] c ne u t a some le = absurd (omega arith)
first_rounds n p w (is ∷ rounds) c ne u t a some le = elim (pending_all n p is w c a.0) [
  | inl g ↦ enters-append w is (concat rounds) g
  | inr all ↦ enters_later w is (concat rounds) (second_rounds n p (run w is) rounds
      (pending_end n p is w all) (taken_run n p is w all a.0 ne) (none_run n p is w all a.0 u)
      (taken_round n p is w all a.0 a.1 ne t) a.2 (omega arith))
]

-- what holds at a stage, depending on whether y is 0
stage_taken : (w : State) → w.y ≢ 0 → Stage w → Taken w
stage_taken w ne h2 = grind arith

settled_free : (w : State) → w.y ≡ 0 → Settled 0 w → AllSettled w
settled_free w z h2 = grind arith

settled_few : (P : At) → unsettled P ≤ 0 → clear P ≤ 4
settled_few P h = grind arith

-- while y is 0 and a process has fewer than m steps left until it is about to store to y
claim_rounds : (m n p : ℕ) (w : State) (rounds : List (List ℕ)) → Pending n p w → w.y ≡ 0 →
    AllSettled w → Stage w → Low n m w → AreFairRounds n w rounds → 1 ≤ n → m ≤ n + 6 →
    m + 5 * n ≤ length rounds + 4 → Enters w (concat rounds)
claim_rounds zero n p w rounds c z u h l a some most le = absurd (let lt = l.1 in omega arith)
claim_rounds (suc m) n p w [] c z u h l a some most le = absurd (omega arith)
claim_rounds (suc m) n p w (is ∷ rounds) c z u h l a some most le =
    elim (pending_all n p is w c a.0) [
      | inl g ↦ enters-append w is (concat rounds) g
      | inr all ↦
          let stage = stage_run n p is w all a.0 h in
          enters_later w is (concat rounds) (elim (cases_eq (run w is).y 0) [
            | inr ne ↦ first_rounds n p (run w is) rounds (pending_end n p is w all) ne
                (none_run n p is w all a.0 (λ j. settled_few (point_of w j) (u j)))
                (stage_taken (run w is) ne stage) a.2 some (omega arith)
            | inl y ↦ elim (advance_round n p m most is w all a.0 a.1 z (inl u) l) [
              | inl ne ↦ absurd (ne y)
              | inr low ↦ claim_rounds m n p (run w is) rounds (pending_end n p is w all) y
                  (settled_free (run w is) y (settles_round n p 0 is w all a.0 a.1
                  (inr (λ j. let few = u j in omega arith)))) stage low a.2 some
                  (omega arith) (omega arith)
            ]
          ])
    ]

-- while the processes have m steps left to settle
settle_rounds : (m n p : ℕ) (w : State) (rounds : List (List ℕ)) → Pending n p w → Settled m w →
    Stage w → AreFairRounds n w rounds → 6 * n + 2 + m ≤ length rounds → Enters w (concat rounds)
settle_rounds zero n p w rounds c settled h a le = elim (cases_eq w.y 0) [
  | inr ne ↦ taken_rounds n p w rounds c ne a (omega arith)
  | inl z ↦
      let u = settled_free w z settled in
      let point = subst (λ k. IsPoint k (point_of w p)) c.sound.counts
      (c.sound.safe.safe.point p) in
      claim_rounds (n + 6) n p w rounds c z u h (
        p,
        entering_low n (point_of w p) point
            c.entering (u p),
      )
      a (pending_some n p w c) (omega arith) (omega arith)
]
settle_rounds (suc m) n p w [] c settled h a le = absurd (omega arith)
settle_rounds (suc m) n p w (is ∷ rounds) c settled h a le = elim (pending_all n p is w c a.0) [
  | inl g ↦ enters-append w is (concat rounds) g
  | inr all ↦ enters_later w is (concat rounds) (settle_rounds m n p (run w is) rounds
      (pending_end n p is w all) (settles_round n p m is w all a.0 a.1 settled)
      (stage_run n p is w all a.0 h) a.2 (omega arith))
]

-- while y is 0 and a process has at most one step left until it is about to store to y
low_rounds : (m n p : ℕ) (w : State) (rounds : List (List ℕ)) → Pending n p w → Low n m w → m ≤ 2 →
    AreFairRounds n w rounds → 6 * n + m < length rounds → Enters w (concat rounds)
low_rounds zero n p w rounds c l few a le = absurd (let lt = l.1 in omega arith)
low_rounds (suc m) n p w [] c l few a le = absurd (omega arith)
low_rounds (suc m) n p w (is ∷ rounds) c l few a le = elim (cases_eq w.y 0) [
  | inr ne ↦ taken_rounds n p w (is ∷ rounds) c ne a (omega arith)
  | inl z ↦ elim (pending_all n p is w c a.0) [
    | inl g ↦ enters-append w is (concat rounds) g
    | inr all ↦ enters_later w is (concat rounds)
        (elim (advance_round n p m (omega arith) is w all a.0 a.1 z (inr (omega arith)) l) [
          | inl ne ↦ taken_rounds n p (run w is) rounds (pending_end n p is w all) ne
              a.2 (omega arith)
          | inr low ↦ low_rounds m n p (run w is) rounds (pending_end n p is w all)
              low (omega arith)
              a.2 (omega arith)
        ])
  ]
]

claim_or_not : (P : At) → IsClaim P ⊎ (IsClaim P → ⊥)
claim_or_not P = grind arith

claim_low : (n : ℕ) (P : At) → IsClaim P → claim_rank n P < 2
claim_low n P h = grind arith

pending_rounds : (n p : ℕ) (w : State) (rounds : List (List ℕ)) → Pending n p w →
    AreFairRounds n w rounds → 6 * n + 4 ≤ length rounds → Enters w (concat rounds)
pending_rounds n p w rounds c a le = elim (cases_eq w.y 0) [
  | inr ne ↦ taken_rounds n p w rounds c ne a (omega arith)
  | inl z ↦ elim (find_point IsClaim claim_or_not (λ h. h) w.points) [
    | inl k ↦ low_rounds 2 n p w rounds c (suc k.0, claim_low n (point_of w (suc k.0)) k.1)
        (omega arith)
        a (omega arith)
    | inr none ↦ settle_rounds 2 n p w rounds c (settled_two w) (inl (z, claimed none)) a
        (omega arith)
  ]
]
  where
    claimed : ((k : ℕ) → IsClaim (get_or w.points k Rest) → ⊥) → Claimed w
    claimed none zero h = absurd h
    claimed none (suc k) h = absurd (none k h)

pub rounds_enter : (n : ℕ) (w : State) (i : ℕ) (rounds : List (List ℕ)) → Reach n w →
    IsEntering (point_of w i) → AreFairRounds n w rounds → round_bound n ≤ length rounds →
    Enters w (concat rounds)
rounds_enter n w i [] r on a le = absurd (omega arith)
rounds_enter n w i (is ∷ rounds) r on a le =
    let s = reach_sound n w r in
    elim (occupied_or_not w) [
      | inr out ↦ pending_rounds n i w (is ∷ rounds) (record {
        sound = s;
        outside = out;
        entering = on;
      }) a (omega arith)
      | inl h ↦ elim (first_round n i is w h.0 s on h.1 a.0
          (a.1 h.0 (inside-ne-Rest (point_of w h.0) h.1) (steady_enabled w s.safe h.0
          (inside_steady (point_of w h.0) h.1)))) [
            | inl g ↦ enters-append w is (concat rounds) g
            | inr c ↦ enters_later w is (concat rounds) (pending_rounds n i (run w is) rounds c
                a.2 (omega arith))
          ]
    ]
