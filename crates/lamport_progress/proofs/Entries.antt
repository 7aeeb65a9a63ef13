-- Steps that take a process into its critical section, and schedules in which no process enters. If
-- some process is in its critical section when a fair round begins, it leaves in that round.
use Rattle.std.proofs.Common.{◌≡◌, ◌≢◌, ◌⊎◌, ℕ, zero, suc, List, [], ◌∷◌, ◌++◌, get_or, sym, subst, inl, inr, arith}
use Rattle.std.proofs.lemmas.Bool.{cases_eq}
use Rattle.std.specs.List.{Contains, concat}
use Rattle.lamport_core.specs.State.{State, IsProcess, IsSchedule, IsInside, IsInsidePoint, process_count, point_of, next, run}
use Rattle.lamport_core.specs.Line.{IsLine}
use Rattle.lamport_core.proofs.LineSteps.{next_line}
use Rattle.lamport_core.proofs.Worlds.{one_inside}
use Rattle.lamport_progress.specs.Progress.{IsOccupied, LeadsInside, IsEntering, AreFairRounds, Enters, IsEntry}
use Rattle.lamport_progress.proofs.Work.{IsSound, sound_next, inside_or_not}
use Rattle.lamport_progress.proofs.Enabled.{IsSteady}
use Rattle.lamport_progress.proofs.Rounds.{Pending, pending_next, others_next, contains_head, entering_line}
use Rattle.lamport_progress.proofs.Settled.{StaysPending, pending_end}
use Rattle.lamport_core.specs.declared.At.{At}
use Rattle.lamport_core.specs.declared.At.TheVariants.{Rest, Leaving}

pub rest_outside : IsInsidePoint Rest → ⊥
rest_outside h0 = grind arith

-- some process is at such a point, or none is
pub find_point : (has : At → Type 0) → ((P : At) → has P ⊎ (has P → ⊥)) → (has Rest → ⊥) →
    (ps : List At) →
    ((k : ℕ) × has (get_or ps k Rest)) ⊎ ((k : ℕ) → has (get_or ps k Rest) → ⊥)
find_point has decide out [] = inr (λ k h. out h)
find_point has decide out (p ∷ ps) = elim (decide p) [
  | inl h ↦ inl (0, h)
  | inr out_here ↦ elim (find_point has decide out ps) [
    | inl h ↦ inl (suc h.0, h.1)
    | inr h ↦ inr (elim [ zero ↦ out_here | suc k ↦ h k ])
  ]
]

pub occupied_or_not : (w : State) → IsOccupied w ⊎ (IsOccupied w → ⊥)
occupied_or_not w = elim (find_point IsInsidePoint inside_or_not rest_outside w.points) [
  | inl h ↦ inl (suc h.0, h.1)
  | inr h ↦ inr (λ k. nobody h k.0 k.1)
]
  where
    nobody : ((k : ℕ) → IsInsidePoint (get_or w.points k Rest) → ⊥) → (i : ℕ) → IsInside w i → ⊥
    nobody h zero g = rest_outside g
    nobody h (suc k) g = h k g

-- if a process is in its critical section after a step, and no process was before it, it entered by
-- that step
entry_of : (w : State) (i : ℕ) → (IsOccupied w → ⊥) → IsOccupied (next w i) → IsEntry w i
entry_of w i out h = elim (cases_eq h.0 i) [
  | inl e ↦ (λ k. out (i, k), subst (λ k. IsInside (next w i) k) e h.1)
  | inr ne ↦ absurd (out (h.0, subst IsInsidePoint (others_next w i h.0 ne) h.1))
]

pub leads_enters : (n p : ℕ) (is : List ℕ) (w : State) → Pending n p w → IsSchedule n is →
    LeadsInside w is → Enters w is
leads_enters n p [] w c s h = absurd (c.outside h)
leads_enters n p (i ∷ is) w c s (inl h) = absurd (c.outside h)
leads_enters n p (i ∷ is) w c s (inr h) = elim (pending_next n p i w c s.0) [
  | inl k ↦ inl (entry_of w i c.outside k)
  | inr d ↦ inr (leads_enters n p is (next w i) d s.1 h)
]

pub pending_all : (n p : ℕ) (is : List ℕ) (w : State) → Pending n p w → IsSchedule n is →
    Enters w is ⊎ StaysPending n p w is
pending_all n p [] w c s = inr c
pending_all n p (i ∷ is) w c s = elim (pending_next n p i w c s.0) [
  | inl k ↦ inl (inl (entry_of w i c.outside k))
  | inr d ↦ elim (pending_all n p is (next w i) d s.1) [ inl h ↦ inl (inr h) | inr h ↦ inr (c, h) ]
]

entering_outside : (P : At) → IsEntering P → IsInsidePoint P → ⊥
entering_outside P h h2 = grind arith

pub inside-ne-Rest : (P : At) → IsInsidePoint P → P ≢ Rest
inside-ne-Rest P h e = rest_outside (subst IsInsidePoint e h)

pub inside_steady : (P : At) → IsInsidePoint P → IsSteady P
inside_steady P h1 = grind arith

-- from a point in the critical section, a step leads to Leaving
pub leaves : (n : ℕ) (P Q : At) → IsInsidePoint P → IsLine n P Q → Q ≡ Leaving
leaves n P Q h3 l = grind arith

leaving_outside : (Q : At) → Q ≡ Leaving → IsInsidePoint Q → ⊥
leaving_outside Q l h2 = grind arith

module _ (n p : ℕ) where
  -- process p is still in its entry after a step, unless it enters by it
  entering_next : (w : State) (i : ℕ) → IsSound n w → IsEntering (point_of w p) → IsProcess n i →
      IsEntry w i ⊎ IsEntering (point_of (next w i) p)
  entering_next w i s on q = elim (cases_eq p i) [
    | inr ne ↦ inr (subst IsEntering (sym (others_next w i p ne)) on)
    | inl e ↦
        let here : IsEntering (point_of w i) = subst (λ k. IsEntering (point_of w k)) e on in
        let l = next_line w i s.safe (subst (λ m. IsProcess m i) (sym s.counts) q) in
        elim (inside_or_not (point_of (next w i) i)) [
          | inl h ↦ inl (entering_outside (point_of w i) here, h)
          | inr out ↦ inr (subst (λ k. IsEntering (point_of (next w i) k)) (sym e)
              (entering_line (process_count w) (point_of w i) (point_of (next w i) i) here l out))
        ]
  ]

  nobody_after : (w : State) (k : ℕ) → IsSound n w → IsProcess n k → IsInside w k →
      IsOccupied (next w k) → ⊥
  nobody_after w k s q h j =
      let l = leaves (process_count w) (point_of w k) (point_of (next w k) k) h
      (next_line w k s.safe (subst (λ m. IsProcess m k) (sym s.counts) q)) in
      elim (cases_eq j.0 k) [
        | inl e ↦ leaving_outside (point_of (next w k) k) l
            (subst (λ i. IsInside (next w k) i) e j.1)
        | inr ne ↦ ne (one_inside w j.0 k s.safe (subst IsInsidePoint (others_next w k j.0 ne) j.1)
            h)
      ]

  -- a round in which process k, which is in its critical section, takes a step
  pub first_round : (is : List ℕ) (w : State) (k : ℕ) → IsSound n w → IsEntering (point_of w p) →
      IsInside w k → IsSchedule n is → Contains is k → Enters w is ⊎ Pending n p (run w is)
  first_round [] w k s on h a t = absurd (let lt = t.1 in omega arith)
  first_round (i ∷ is) w k s on h a t = elim (entering_next w i s on a.0) [
    | inl e ↦ inl (inl e)
    | inr on' ↦ elim (cases_eq k i) [
      | inl e ↦ elim (pending_all n p is (next w i) (record {
        sound = sound_next n w i s a.0;
        outside = nobody_after w i s a.0 (subst (λ j. IsInside w j) e h);
        entering = on';
      }) a.1) [ inl g ↦ inl (inr g) | inr all ↦ inr (pending_end n p is (next w i) all) ]
      | inr ne ↦ elim (contains_head i k is t.0 t.1 t.2) [
        | inl e ↦ absurd (ne (sym e))
        | inr u ↦ elim (first_round is (next w i) k (sound_next n w i s a.0) on'
            (subst IsInsidePoint (sym (others_next w i k ne)) h) a.1 u) [
              | inl g ↦ inl (inr g)
              | inr g ↦ inr g
            ]
      ]
    ]
  ]

pub enters-append : (w : State) (is js : List ℕ) → Enters w is → Enters w (is ++ js)
enters-append w [] js h = absurd h
enters-append w (i ∷ is) js (inl h) = inl h
enters-append w (i ∷ is) js (inr h) = inr (enters-append (next w i) is js h)

pub enters_later : (w : State) (is js : List ℕ) → Enters (run w is) js → Enters w (is ++ js)
enters_later w [] js h = h
enters_later w (i ∷ is) js h = inr (enters_later (next w i) is js h)

pub schedule-append : (n : ℕ) (is js : List ℕ) → IsSchedule n is → IsSchedule n js →
    IsSchedule n (is ++ js)
schedule-append n [] js a b = b
schedule-append n (i ∷ is) js a b = (a.0, schedule-append n is js a.1 b)

pub schedule_concat : (n : ℕ) (w : State) (rounds : List (List ℕ)) → AreFairRounds n w rounds →
    IsSchedule n (concat rounds)
schedule_concat n w [] a = tt
schedule_concat n w (is ∷ rounds) a = schedule-append n is (concat rounds) a.0
    (schedule_concat n (run w is) rounds a.2)
