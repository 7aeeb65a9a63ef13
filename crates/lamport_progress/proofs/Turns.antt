-- A round robin is a fair round from each world. But fair rounds can starve a process.
use Rattle.std.proofs.Common.{◌≡◌, ◌≢◌, ◌≤◌, ◌⊎◌, ℕ, zero, suc, false, List, [], ◌∷◌, ◌++◌, replicate, refl, sym, subst, inl, inr, arith}
use Rattle.std.proofs.lemmas.Bool.{cases_eq}
use Rattle.std.proofs.lemmas.List.{length-replicate}
use Rattle.std.proofs.lemmas.List.Elements.{All-replicate}
use Rattle.std.specs.List.{Contains, concat}
use Rattle.lamport_core.specs.State.{State, Reach, IsProcess, IsSchedule, IsInside, process_count, point_of, next, run}
use Rattle.lamport_core.specs.Safe.{IsSafe}
use Rattle.lamport_core.proofs.Worlds.{run_safe}
use Rattle.lamport_progress.specs.Progress.{IsEntering, AreFairRounds, Enters, StaysOut, Starves, round_robin, round_bound, IsEnabled}
use Rattle.lamport_progress.proofs.Work.{reach_sound, count-run}
use Rattle.lamport_progress.proofs.Bound.{rounds_enter}
use Rattle.lamport_core.specs.declared.At.{At}
use Rattle.lamport_core.specs.declared.At.TheVariants.{Rest, AwaitY, Fast, Slow}

pub contains_later : (xs : List ℕ) (x y : ℕ) → Contains xs x → Contains (y ∷ xs) x
contains_later xs x y c = let lt = c.1 in (suc c.0, omega arith, c.2)

contains_round_robin : (n i : ℕ) → IsProcess n i → Contains (round_robin n) i
contains_round_robin zero i p = absurd (omega arith)
contains_round_robin (suc k) i p = elim (cases_eq i (suc k)) [
  | inl e ↦ (0, omega arith, sym e)
  | inr ne ↦ contains_later (round_robin k) i (suc k) (contains_round_robin k i
      (omega arith, omega arith))
]

schedule_round_robin : (n m : ℕ) → m ≤ n → IsSchedule n (round_robin m)
schedule_round_robin n zero le = tt
schedule_round_robin n (suc k) le = ((omega arith, le), schedule_round_robin n k (omega arith))

turns : (n k : ℕ) (w : State) → IsSafe w → process_count w ≡ n →
    AreFairRounds n w (replicate k (round_robin n))
turns n zero w s e = tt
turns n (suc k) w s e = grind (
  arith,
  schedule_round_robin,
  contains_round_robin,
  run_safe,
  count-run,
  turns n k,
)

pub round_robin_enters : (n : ℕ) (w : State) (i : ℕ) → Reach n w → IsEntering (point_of w i) →
    Enters w (concat (replicate (round_bound n) (round_robin n)))
round_robin_enters n w i r on =
    let s = reach_sound n w r in
    let long = length-replicate (round_bound n) (round_robin n) in
    rounds_enter n w i (replicate (round_bound n) (round_robin n)) r on
    (turns n (round_bound n) w s.safe s.counts) (omega arith)

-- Process 1 of two waits for y = 0, and process 2 is at rest. In a round process 2 enters and
-- leaves, process 1 finds that y is not 0, and the world is the same again.
hungry : State
hungry = record { x = 2; y = 0; flags = false ∷ false ∷ []; points = AwaitY ∷ Rest ∷ [] }

round : List ℕ
round = 2 ∷ 2 ∷ 2 ∷ 2 ∷ 1 ∷ 2 ∷ 2 ∷ 2 ∷ []

one : IsProcess 2 1
one = (omega arith, omega arith)

two : IsProcess 2 2
two = (omega arith, omega arith)

reach_hungry : Reach 2 hungry
unfolding hungry
reach_hungry = record {
  schedule = 1 ∷ 1 ∷ 2 ∷ 2 ∷ 2 ∷ 2 ∷ 1 ∷ 1 ∷ 2 ∷ 2 ∷ 2 ∷ [];
  processes = (one, (one, (two, (two, (two, (two, (one, (one, (two, (two, (two, tt)))))))))));
  ends = refl;
}

again : run hungry round ≡ hungry
unfolding hungry round
again = refl

is_round : (i : ℕ) → point_of hungry i ≢ Rest → IsEnabled hungry i → Contains round i
unfolding hungry round
is_round zero ne go = absurd (ne refl)
is_round (suc zero) ne go = (4, omega arith, refl)
is_round (suc (suc zero)) ne go = absurd (ne refl)
is_round (suc (suc (suc k))) ne go = absurd (ne refl)

awaits : (p : At) → p ≡ AwaitY → (p ≡ Fast) ⊎ (p ≡ Slow) → ⊥
awaits p e h2 = grind arith

not_inside : IsInside hungry 1 → ⊥
unfolding hungry
not_inside h = awaits AwaitY refl h

entering_hungry : IsEntering (point_of hungry 1)
unfolding hungry
entering_hungry = tt

schedule_round : IsSchedule 2 round
unfolding round
schedule_round = (two, (two, (two, (two, (one, (two, (two, (two, tt))))))))

out_of_round : StaysOut 1 hungry round
unfolding hungry round
out_of_round = (
  (awaits AwaitY refl),
  (
    (awaits AwaitY refl),
    (
      (awaits AwaitY refl),
      (
        (awaits AwaitY refl),
        (
          (awaits AwaitY refl),
          (
            (awaits AwaitY refl),
            ((awaits AwaitY refl), ((awaits AwaitY refl), (awaits AwaitY refl))),
          ),
        ),
      ),
    ),
  ),
)

stays-append : (p : ℕ) (w : State) (is js : List ℕ) → StaysOut p w is → StaysOut p (run w is) js →
    StaysOut p w (is ++ js)
stays-append p w [] js h g = g
stays-append p w (i ∷ is) js h g = (h.0, stays-append p (next w i) is js h.1 g)

fair_hungry : (k : ℕ) → AreFairRounds 2 hungry (replicate k round)
fair_hungry zero = tt
fair_hungry (suc k) = (
  schedule_round,
  is_round,
  subst (λ w. AreFairRounds 2 w (replicate k round))
      (sym again) (fair_hungry k),
)

out_hungry : (k : ℕ) → StaysOut 1 hungry (concat (replicate k round))
out_hungry zero = not_inside
out_hungry (suc k) = stays-append 1 hungry round (concat (replicate k round)) out_of_round
    (subst (λ w. StaysOut 1 w (concat (replicate k round))) (sym again) (out_hungry k))

first_steps : Contains round 1
unfolding round
first_steps = (4, omega arith, refl)

pub starves : (k : ℕ) → Starves 2 1 k
starves k = record {
  world = hungry;
  reach = reach_hungry;
  entering = entering_hungry;
  rounds = replicate k round;
  count = length-replicate k round;
  fair = fair_hungry k;
  steps = All-replicate (λ is. Contains is 1) k round first_steps;
  outside = out_hungry k;
}
