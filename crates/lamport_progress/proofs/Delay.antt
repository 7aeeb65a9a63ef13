-- Two processes for which no process enters in 16 fair rounds, one fewer than the bound. Process 1
-- is in its critical section, and process 2 is about to store to y. Process 1 leaves. Process 2
-- does not find its number in x, scans both flags, finds y changed and starts again. Then process 1
-- starts too, and stores to x just before process 2 tests it again.
use Rattle.std.proofs.Common.{◌≡◌, ◌≢◌, ◌==◌, ℕ, zero, suc, Bool, true, false, cond, List, [], ◌∷◌, refl, sym, ap, ◌∙◌, subst, inl, inr, arith}
use Rattle.std.proofs.lemmas.Bool.{cases_eq, true≢false}
use Rattle.std.proofs.lemmas.Bool.Decides.{eqb_tells}
use Rattle.std.specs.List.{Contains, concat}
use Rattle.lamport_core.specs.State.{State, Reach, IsProcess, IsSchedule, IsInsidePoint, process_count, point_of, next, run}
use Rattle.lamport_core.specs.Safe.{IsSafe}
use Rattle.lamport_core.proofs.Worlds.{run_safe, reach_safe}
use Rattle.lamport_progress.specs.Progress.{AreFairRounds, Enters, Delays}
use Rattle.lamport_progress.proofs.Work.{count-run}
use Rattle.lamport_progress.proofs.Turns.{contains_later}
use Rattle.lamport_core.specs.declared.At.{At}
use Rattle.lamport_core.specs.declared.At.TheVariants.{Rest, Fast, Slow, SetY}

both : (a b : Bool) → cond a b false ≡ true → (a ≡ true) × (b ≡ true)
both a b e = grind arith

abbrev is_inside : At → Bool
is_inside Fast = true
is_inside Slow = true
is_inside _ = false

abbrev is_resting : At → Bool
is_resting Rest = true
is_resting _ = false

-- some item of the list is i
abbrev has : ℕ → List ℕ → Bool
has i [] = false
has i (j ∷ js) = cond (j == i) true (has i js)

-- each of the first k processes takes a step in the round, or is at rest when it begins
abbrev covers : ℕ → State → List ℕ → Bool
covers zero w is = true
covers (suc k) w is =
    cond (cond (has (suc k) is) true (is_resting (point_of w (suc k)))) (covers k w is) false

abbrev cover_all : ℕ → State → List (List ℕ) → Bool
cover_all n w [] = true
cover_all n w (is ∷ rounds) = cond (covers n w is) (cover_all n (run w is) rounds) false

-- after no step of the schedule is a process in its critical section
abbrev stays_out : State → List ℕ → Bool
stays_out w [] = true
stays_out w (i ∷ is) = cond (is_inside (point_of (next w i) i)) false (stays_out (next w i) is)

has_contains : (i : ℕ) (is : List ℕ) → has i is ≡ true → Contains is i
has_contains i [] e = absurd (true≢false (sym e))
has_contains i (j ∷ js) e = grind (arith, eqb_tells, contains_later, has_contains i js)

covers_steps : (k : ℕ) (w : State) (is : List ℕ) → covers k w is ≡ true → (i : ℕ) → IsProcess k i →
    point_of w i ≢ Rest → Contains is i
covers_steps zero w is e i q ne = absurd (omega arith)
covers_steps (suc k) w is e i q ne =
    let h = both (cond (has (suc k) is) true (is_resting (point_of w (suc k)))) (covers k w is) e in
    elim (cases_eq i (suc k)) [
      | inr other ↦ covers_steps k w is h.1 i (omega arith, omega arith) ne
      | inl same ↦ subst (Contains is) (sym same)
          (here (has (suc k) is) refl h.0 (subst (λ j. point_of w j ≢ Rest) same ne))
    ]
  where
    rests : (P : At) → is_resting P ≡ true → P ≡ Rest
    rests Rest r = refl
    rests _ r = absurd (true≢false (sym r))

    here : (b : Bool) → has (suc k) is ≡ b → cond b true (is_resting (point_of w (suc k))) ≡ true →
        point_of w (suc k) ≢ Rest → Contains is (suc k)
    here true f e up = has_contains (suc k) is f
    here false f e up = absurd (up (rests (point_of w (suc k)) e))

-- rounds of n processes
abbrev Scheduled : ℕ → List (List ℕ) → Type 0
Scheduled n [] = Unit {0}
Scheduled n (is ∷ rounds) = IsSchedule n is × Scheduled n rounds

covers_fair : (n : ℕ) (w : State) (rounds : List (List ℕ)) → IsSafe w → process_count w ≡ n →
    Scheduled n rounds → cover_all n w rounds ≡ true → AreFairRounds n w rounds
covers_fair n w [] s c p e = tt
covers_fair n w (is ∷ rounds) s c p e =
    let h = both (covers n w is) (cover_all n (run w is) rounds) e in (
      p.0,
      (λ i ne go. covers_steps n w is h.0 i (subst (λ m. IsProcess m i) c (s.safe.process i ne))
          ne),
      covers_fair n (run w is) rounds
          (run_safe w is s (subst (λ m. IsSchedule m is) (sym c) p.0)) (count-run w is ∙ c) p.1 h.1,
    )

none_enters : (w : State) (is : List ℕ) → stays_out w is ≡ true → Enters w is → ⊥
none_enters w [] e h = h
none_enters w (i ∷ is) e h = by (is_inside (point_of (next w i) i)) refl e h
    (λ f k. none_enters (next w i) is f k)
  where
    inside_is : (P : At) → IsInsidePoint P → is_inside P ≡ true
    inside_is P (inl at) = ap is_inside at
    inside_is P (inr at) = ap is_inside at

    by : (b : Bool) → is_inside (point_of (next w i) i) ≡ b →
        cond b false (stays_out (next w i) is) ≡ true → Enters w (i ∷ is) →
        (stays_out (next w i) is ≡ true → Enters (next w i) is → ⊥) → ⊥
    by true f e h rest = true≢false (sym e)
    by false f e (inl k) rest = true≢false (sym (inside_is (point_of (next w i) i) k.1) ∙ f)
    by false f e (inr k) rest = rest e k

one : IsProcess 2 1
one = (omega arith, omega arith)

two : IsProcess 2 2
two = (omega arith, omega arith)

first : State
first = record { x = 1; y = 1; flags = true ∷ true ∷ []; points = Fast ∷ SetY ∷ [] }

reach_first : Reach 2 first
unfolding first
reach_first = record {
  schedule = 1 ∷ 2 ∷ 2 ∷ 1 ∷ 1 ∷ 2 ∷ 1 ∷ 1 ∷ [];
  processes = (one, (two, (two, (one, (one, (two, (one, (one, tt))))))));
  ends = refl;
}

rounds : List (List ℕ)
rounds =
    (2 ∷ 1 ∷ []) ∷
    (1 ∷ 2 ∷ []) ∷
    (2 ∷ []) ∷
    (2 ∷ []) ∷
    (2 ∷ []) ∷
    (2 ∷ []) ∷
    (2 ∷ []) ∷
    (2 ∷ []) ∷
    (2 ∷ []) ∷
    (2 ∷ []) ∷
    (1 ∷ 2 ∷ []) ∷
    (1 ∷ 2 ∷ []) ∷
    (1 ∷ 2 ∷ []) ∷
    (2 ∷ 1 ∷ []) ∷
    (1 ∷ 2 ∷ []) ∷
    (1 ∷ 2 ∷ []) ∷
    []

scheduled : Scheduled 2 rounds
unfolding rounds
scheduled = (
  (two, (one, tt)),
  (
    (one, (two, tt)),
    (
      (two, tt),
      (
        (two, tt),
        (
          (two, tt),
          (
            (two, tt),
            (
              (two, tt),
              (
                (two, tt),
                (
                  (two, tt),
                  (
                    (two, tt),
                    (
                      (one, (two, tt)),
                      (
                        (one, (two, tt)),
                        (
                          (one, (two, tt)),
                          ((two, (one, tt)), ((one, (two, tt)), ((one, (two, tt)), tt))),
                        ),
                      ),
                    ),
                  ),
                ),
              ),
            ),
          ),
        ),
      ),
    ),
  ),
)

pub delays : Delays 2 16
unfolding first rounds
delays = record {
  world = first;
  reach = reach_first;
  process = 2;
  entering = tt;
  rounds = rounds;
  count = refl;
  fair = covers_fair 2 first rounds (reach_safe 2 first reach_first) refl scheduled refl;
  none = none_enters first (concat rounds) refl;
}
