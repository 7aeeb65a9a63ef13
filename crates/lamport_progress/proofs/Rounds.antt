-- The rule of fair rounds. Suppose that a measure never increases while no process is in its
-- critical section, and that at each time some process helps: its step lowers the measure, and it
-- keeps helping while steps of others leave the measure unchanged. Then each fair round lowers the
-- measure, or some process enters its critical section in it.
use Rattle.std.proofs.lemmas.Bool.Decides.{nat_tests}
use Rattle.std.proofs.Common.{◌≡◌, ◌≢◌, ◌<◌, ◌≤◌, ◌⊎◌, ℕ, List, [], ◌∷◌, ◌++◌, length, get_or, sym, subst, inl, inr, arith}
use Rattle.std.proofs.lemmas.Bool.{cases_eq}
use Rattle.std.specs.List.{Contains, concat}
use Rattle.lamport_core.specs.State.{State, IsProcess, IsSchedule, IsInsidePoint, process_count, point_of, next, run, step_from}
use Rattle.lamport_core.specs.Line.{IsLine}
use Rattle.lamport_core.proofs.LineSteps.{next_line}
use Rattle.lamport_core.proofs.Worlds.{of-with_other}
use Rattle.lamport_progress.specs.Progress.{IsOccupied, LeadsInside, IsEnabled, IsEntering, AreFairRounds}
use Rattle.lamport_progress.proofs.Work.{IsSound, sound_next, at_once, inside_or_not}
use Rattle.lamport_core.specs.declared.At.{At}
use Rattle.lamport_core.specs.declared.At.TheVariants.{Rest}

-- a step does not change the points of the other processes
pub others_from : (P : At) (w : State) (i j : ℕ) → j ≢ i →
    point_of (step_from P w i) j ≡ point_of w j
others_from P w i j ne = grind (arith, of-with_other)

pub others_next : (w : State) (i j : ℕ) → j ≢ i → point_of (next w i) j ≡ point_of w j
others_next w i = others_from (point_of w i) w i

-- a process in its entry stays in it until it is in its critical section
pub entering_line : (n : ℕ) (P Q : At) → IsEntering P → IsLine n P Q → (IsInsidePoint Q → ⊥) →
    IsEntering Q
entering_line n P Q h l out = grind arith

-- process p of n is in its entry, and no process is in its critical section
pub record Pending (n p : ℕ) (w : State) : Type 0 where
  pub sound : IsSound n w
  pub outside : IsOccupied w → ⊥
  pub entering : IsEntering (point_of w p)

module _ (n p i : ℕ) (w : State) (c : Pending n p w) (q : IsProcess n i) where
  line : IsLine (process_count w) (point_of w i) (point_of (next w i) i)
  line = next_line w i c.sound.safe (subst (λ m. IsProcess m i) (sym c.sound.counts) q)

  still_out : (IsInsidePoint (point_of (next w i) i) → ⊥) → IsOccupied (next w i) → ⊥
  still_out out h = grind (arith, others_next)

  still_entering : (IsInsidePoint (point_of (next w i) i) → ⊥) → IsEntering (point_of (next w i) p)
  still_entering out = elim (cases_eq p i) [
    | inl e ↦ subst (λ k. IsEntering (point_of (next w i) k)) (sym e)
        (entering_line (process_count w) (point_of w i) (point_of (next w i) i)
        (subst (λ k. IsEntering (point_of w k)) e c.entering) line out)
    | inr ne ↦ subst IsEntering (sym (others_next w i p ne)) c.entering
  ]

  pub pending_next : IsOccupied (next w i) ⊎ Pending n p (next w i)
  pending_next = elim (inside_or_not (point_of (next w i) i)) [
    | inl h ↦ inl (i, h)
    | inr out ↦ inr (record {
      sound = sound_next n w i c.sound q;
      outside = still_out out;
      entering = still_entering out;
    })
  ]

-- a step while no process is in its critical section does not set y to 0
pub taken_from : (P : At) (w : State) (i : ℕ) → 0 < i → (IsInsidePoint P → ⊥) → w.y ≢ 0 →
    (step_from P w i).y ≢ 0
taken_from P w i p out ne = grind arith

-- and y is not 0
pub record Held (n p : ℕ) (w : State) : Type 0 where
  pub pending : Pending n p w
  pub taken : w.y ≢ 0

held_next : (n p i : ℕ) (w : State) → Held n p w → IsProcess n i →
    IsOccupied (next w i) ⊎ Held n p (next w i)
held_next n p i w c q = elim (pending_next n p i w c.pending q) [
  | inl h ↦ inl h
  | inr d ↦ grind (arith, nat_tests, taken_from)
]

leads-append : (w : State) (is js : List ℕ) → LeadsInside w is → LeadsInside w (is ++ js)
leads-append w [] js h = at_once w js h
leads-append w (i ∷ is) js (inl h) = inl h
leads-append w (i ∷ is) js (inr h) = inr (leads-append (next w i) is js h)

leads_later : (w : State) (is js : List ℕ) → LeadsInside (run w is) js → LeadsInside w (is ++ js)
leads_later w [] js h = h
leads_later w (i ∷ is) js h = inr (leads_later (next w i) is js h)

pub contains_head : (i j : ℕ) (is : List ℕ) (k : ℕ) → k < length (i ∷ is) →
    get_or (i ∷ is) k j ≡ j → (i ≡ j) ⊎ Contains is j
contains_head i j is k lt e = grind arith

-- a process that is not at rest, and helps
pub record Helper (helps : State → ℕ → Type 0) (w : State) : Type 0 where
  pub process : ℕ
  pub started : point_of w process ≢ Rest
  pub does : helps w process

-- the conditions on the measure and the helpers
pub record Fair (n p : ℕ) (measure : State → ℕ) (helps : State → ℕ → Type 0) : Type 0 where
  pub falls : (w : State) (i : ℕ) → Held n p w → IsProcess n i →
      IsOccupied (next w i) ⊎ (measure (next w i) ≤ measure w)
  pub lowers : (w : State) (i : ℕ) → Held n p w → IsProcess n i → helps w i →
      IsOccupied (next w i) ⊎ (measure (next w i) < measure w)
  pub stays : (w : State) (i j : ℕ) → Held n p w → IsProcess n i → j ≢ i → helps w j →
      IsOccupied (next w i) ⊎ ((measure (next w i) < measure w) ⊎ helps (next w i) j)
  pub some : (w : State) → Held n p w → Helper helps w

module _ (n p : ℕ) (measure : State → ℕ) (helps : State → ℕ → Type 0)
    (f : Fair n p measure helps) where
  abbrev After : State → List ℕ → ℕ → Type 0
  After w is m = Held n p (run w is) × (measure (run w is) < m)

  run_falls : (is : List ℕ) (w : State) (m : ℕ) → Held n p w → IsSchedule n is → measure w < m →
      LeadsInside w is ⊎ After w is m
  run_falls [] w m c s lt = inr (c, lt)
  run_falls (i ∷ is) w m c s lt = elim (f.falls w i c s.0) [
    | inl h ↦ inl (inr (at_once (next w i) is h))
    | inr le ↦ elim (held_next n p i w c s.0) [
      | inl h ↦ inl (inr (at_once (next w i) is h))
      | inr d ↦ elim (run_falls is (next w i) m d s.1 (omega arith)) [
        | inl h ↦ inl (inr h)
        | inr h ↦ inr h
      ]
    ]
  ]

  -- the first step after which the measure is below m
  then_falls : (i : ℕ) (is : List ℕ) (w : State) (m : ℕ) → Held n p w → IsSchedule n (i ∷ is) →
      IsOccupied (next w i) ⊎ (measure (next w i) < m) → LeadsInside w (i ∷ is) ⊎ After w (i ∷ is) m
  then_falls i is w m c s (inl h) = inl (inr (at_once (next w i) is h))
  then_falls i is w m c s (inr lt) = elim (held_next n p i w c s.0) [
    | inl h ↦ inl (inr (at_once (next w i) is h))
    | inr d ↦ elim (run_falls is (next w i) m d s.1 lt) [
      | inl h ↦ inl (inr h)
      | inr h ↦ inr h
    ]
  ]

  round_falls : (is : List ℕ) (w : State) (j m : ℕ) → Held n p w → IsSchedule n is → helps w j →
      Contains is j → measure w ≤ m → LeadsInside w is ⊎ After w is m
  round_falls [] w j m c s h t le = absurd (let lt = t.1 in omega arith)
  round_falls (i ∷ is) w j m c s h t le = elim (cases_eq j i) [
    | inl e ↦ then_falls i is w m c s (elim (f.lowers w i c s.0 (subst (λ k. helps w k) e h))
        [ inl g ↦ inl g | inr g ↦ inr (omega arith) ])
    | inr ne ↦ elim (f.stays w i j c s.0 ne h) [
      | inl g ↦ inl (inr (at_once (next w i) is g))
      | inr (inl g) ↦ then_falls i is w m c s (inr (omega arith))
      | inr (inr g) ↦ elim (f.falls w i c s.0) [
        | inl k ↦ inl (inr (at_once (next w i) is k))
        | inr k ↦ elim (held_next n p i w c s.0) [
          | inl d ↦ inl (inr (at_once (next w i) is d))
          | inr d ↦ elim (contains_head i j is t.0 t.1 t.2) [
            | inl e ↦ absurd (ne (sym e))
            | inr u ↦ elim (round_falls is (next w i) j m d s.1 g u (omega arith)) [
              | inl v ↦ inl (inr v)
              | inr v ↦ inr v
            ]
          ]
        ]
      ]
    ]
  ]

  -- a process that helps does not wait
  helper_enabled : (w : State) (j : ℕ) → Held n p w → IsProcess n j → helps w j → IsEnabled w j
  helper_enabled w j c q h e = grind arith

  pub rounds_lead : (rounds : List (List ℕ)) (w : State) → Held n p w → AreFairRounds n w rounds →
      measure w < length rounds → LeadsInside w (concat rounds)
  rounds_lead [] w c r lt = absurd (omega arith)
  rounds_lead (is ∷ rounds) w c r lt =
      let h = f.some w c in
      elim (round_falls is w h.process (measure w) c r.0 h.does
      (r.1 h.process h.started (helper_enabled w h.process c
      (subst (λ m. IsProcess m h.process) c.pending.sound.counts
      (c.pending.sound.safe.safe.process h.process h.started)) h.does)) (omega arith)) [
        | inl g ↦ leads-append w is (concat rounds) g
        | inr g ↦ leads_later w is (concat rounds) (rounds_lead rounds (run w is) g.0 r.2
            (let d = g.1 in omega arith))
      ]
