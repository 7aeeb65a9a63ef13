-- Each step keeps the condition on worlds, so each world that a schedule leads to has it.
use Rattle.std.proofs.Common.{◌≡◌, ◌≢◌, ℕ, Bool, true, false, cond, List, [], ◌∷◌, length, replicate, refl, sym, ap, ◌∙◌, subst, arith}
use Rattle.std.proofs.lemmas.Bool.{cases_lt, eq-eqb}
use Rattle.std.proofs.Math.ListN.{set}
use Rattle.lamport_core.specs.Machine.{state_of}
use Rattle.std.proofs.lemmas.List.{get_or-set_same, get_or-set_other, length-set, get_or-replicate, get_or_past, length-replicate, set-set, set-get_or}
use Rattle.lamport_core.specs.State.{State, IsWorld, after_TestX, IsProcess, IsSchedule, of_process, with_process, process_count, point_of, flag_of, with_point, with_flag, step_from, next, run, start, IsInside, Reach}
use Rattle.lamport_core.specs.Safe.{Safe, IsSafe, Moves, Sets, FlagFits}
use Rattle.lamport_core.proofs.Steps
use Rattle.lamport_core.proofs.Along.{one_inside_at}
use Rattle.lamport_core.specs.declared.At.{At}
use Rattle.lamport_core.specs.declared.At.TheVariants.{Rest, Start, SetX, TestY, BackB, AwaitY, SetY, TestX, SlowB, Scan, SlowY, SlowAwait, Fast, Slow, Leaving}

pub of-with_same : {A : Type 0} (d : A) (xs : List A) (i : ℕ) (v : A) → IsProcess (length xs) i →
    of_process d (with_process xs i v) i ≡ v
of-with_same d xs i v p = grind (arith, get_or-set_same)

pub of-with_other : {A : Type 0} (d : A) (xs : List A) (i j : ℕ) (v : A) → j ≢ i →
    of_process d (with_process xs i v) j ≡ of_process d xs j
of-with_other d xs i j v ne = grind (arith, get_or-set_other)

pub length-with : {A : Type 0} (xs : List A) (i : ℕ) (v : A) →
    length (with_process xs i v) ≡ length xs
length-with xs i v = grind (arith, length-set)

module _ (w : State) (i : ℕ) (s : IsSafe w) (p : IsProcess (process_count w) i) where
  moved : (P Q : At) → point_of w i ≡ P →
      Moves i P Q (point_of w) (λ j. of_process Rest (with_process w.points i Q) j)
  moved P Q at = record {
    from = at;
    to = of-with_same Rest w.points i Q (subst (λ n. IsProcess n i) (sym s.same_count) p);
    others = λ j ne. of-with_other Rest w.points i j Q ne;
  }

  flag_set : (v : Bool) → Sets i v (flag_of w) (λ j. of_process false (with_process w.flags i v) j)
  flag_set v = record {
    to = of-with_same false w.flags i v p;
    others = λ j ne. of-with_other false w.flags i j v ne;
  }

  -- the world after a step that leaves the flags as they are
  kept_world : (x y : ℕ) (Q : At) →
      Safe (process_count w) x y (flag_of w) (λ j. of_process Rest (with_process w.points i Q) j) →
      IsSafe (record { x = x; y = y; flags = w.flags; points = with_process w.points i Q })
  kept_world x y Q h = record { same_count = length-with w.points i Q ∙ s.same_count; safe = h }

  -- the world after a store to the flag
  kept_flag : (v : Bool) (Q : At) →
      Safe (process_count w) w.x w.y (λ j. of_process false (with_process w.flags i v) j)
      (λ j. of_process Rest (with_process w.points i Q) j) →
      IsSafe (with_point (with_flag w i v) i Q)
  kept_flag v Q h = record {
    same_count = length-with w.points i Q ∙ s.same_count ∙ sym (length-with w.flags i v);
    safe = subst (λ n. Safe n w.x w.y (λ j. of_process false (with_process w.flags i v) j)
        (λ j. of_process Rest (with_process w.points i Q) j)) (sym (length-with w.flags i v)) h;
  }

  step_safe : (P : At) → point_of w i ≡ P → IsSafe (step_from P w i)
  step_safe Rest at = kept_flag true SetX (Steps.at_Rest _ _ _ i _ _ _ _ s.safe p
      (moved Rest SetX at) (flag_set true))
  step_safe Start at = kept_flag true SetX (Steps.at_Start _ _ _ i _ _ _ _ s.safe
      (moved Start SetX at) (flag_set true))
  step_safe SetX at = kept_world i w.y TestY (Steps.at_SetX _ _ _ i _ _ _ s.safe
      (moved SetX TestY at))
  step_safe TestY at = kept_world w.x w.y _ (Steps.at_TestY _ _ _ i _ _ _ s.safe w.y refl
      (moved TestY _ at))
  step_safe BackB at = kept_flag false AwaitY (Steps.at_BackB _ _ _ i _ _ _ _ s.safe
      (moved BackB AwaitY at) (flag_set false))
  step_safe AwaitY at = kept_world w.x w.y _ (Steps.at_AwaitY _ _ _ i _ _ _ s.safe w.y refl
      (moved AwaitY _ at))
  step_safe SetY at = kept_world w.x i TestX (Steps.at_SetY _ _ _ i _ _ _ s.safe
      (moved SetY TestX at))
  step_safe TestX at = kept_world w.x w.y _ (Steps.at_TestX _ _ _ i _ _ _ s.safe w.x refl
      (moved TestX _ at))
  step_safe SlowB at = kept_flag false (Scan 1) (Steps.at_SlowB _ _ _ i _ _ _ _ s.safe
      (moved SlowB (Scan 1) at) (flag_set false))
  step_safe (Scan j) at = kept_world w.x w.y _ (Steps.at_Scan _ _ _ i _ _ _ s.safe j (flag_of w j)
      refl (moved (Scan j) _ at))
  step_safe SlowY at = kept_world w.x w.y _ (Steps.at_SlowY _ _ _ i _ _ _ s.safe w.y refl
      (moved SlowY _ at))
  step_safe SlowAwait at = kept_world w.x w.y _ (Steps.at_SlowAwait _ _ _ i _ _ _ s.safe w.y refl
      (moved SlowAwait _ at))
  step_safe Fast at = kept_world w.x 0 Leaving (Steps.at_Fast _ _ _ i _ _ _ s.safe
      (moved Fast Leaving at))
  step_safe Slow at = kept_world w.x 0 Leaving (Steps.at_Slow _ _ _ i _ _ _ s.safe
      (moved Slow Leaving at))
  step_safe Leaving at = kept_flag false Rest (Steps.at_Leaving _ _ _ i _ _ _ _ s.safe
      (moved Leaving Rest at) (flag_set false))

  pub next_safe : IsSafe (next w i)
  next_safe = step_safe (point_of w i) refl

count-step : (P : At) (w : State) (i : ℕ) → process_count (step_from P w i) ≡ process_count w
count-step P w i = grind (arith, length-with)

pub count-next : (w : State) (i : ℕ) → process_count (next w i) ≡ process_count w
count-next w i = count-step (point_of w i) w i

pub run_safe : (w : State) (is : List ℕ) → IsSafe w → IsSchedule (process_count w) is →
    IsSafe (run w is)
run_safe w [] s p = s
run_safe w (i ∷ is) s p = run_safe (next w i) is (next_safe w i s p.0) (subst (λ n. IsSchedule n is)
    (sym (count-next w i)) p.1)

-- if each process is at rest, with its flag down
pub rest_safe : (n x y : ℕ) (b : ℕ → Bool) (at : ℕ → At) → ((i : ℕ) → at i ≡ Rest) →
    ((i : ℕ) → b i ≡ false) → Safe n x y b at
rest_safe n x y b at rest down = grind arith

pub start_safe : (n : ℕ) → IsSafe (start n)
start_safe n = grind (arith, length-replicate, rest_safe, cases_lt, get_or-replicate, get_or_past)

pub reach_safe : (n : ℕ) (w : State) → Reach n w → IsSafe w
reach_safe n w r = subst IsSafe (sym r.ends) (run_safe (start n) r.schedule (start_safe n)
    (subst (λ m. IsSchedule m r.schedule) (sym (length-replicate n false)) r.processes))

-- at most one process is in its critical section
pub one_inside : (w : State) (i j : ℕ) → IsSafe w → IsInside w i → IsInside w j → i ≡ j
one_inside w i j s = one_inside_at _ _ _ _ _ s.safe i j

with-with : {A : Type 0} (xs : List A) (i : ℕ) (a b : A) → with_process (with_process xs i a) i b ≡
    with_process xs i b
with-with xs i a b = grind (arith, set-set)

pub with-of : {A : Type 0} (d : A) (xs : List A) (i : ℕ) (a : A) → of_process d xs i ≡ a →
    with_process xs i a ≡ xs
with-of d xs i a e = grind (arith, set, set-get_or)

next_at : (w : State) (i : ℕ) (P : At) → point_of w i ≡ P → next w i ≡ step_from P w i
next_at w i P e = ap (λ p. step_from p w i) e

-- the world w, but for x, y and what process i has
solo : State → ℕ → ℕ → ℕ → Bool → At → State
solo w i x y v P = record {
  x = x;
  y = y;
  flags = with_process w.flags i v;
  points = with_process w.points i P;
}

module _ (w : State) (i : ℕ) (s : IsWorld w) (p : IsProcess (process_count w) i) (free : w.y ≡ 0)
    (rest : point_of w i ≡ Rest) where
  solo_point : (x y : ℕ) (v : Bool) (P : At) → point_of (solo w i x y v P) i ≡ P
  unfolding solo
  solo_point x y v P = of-with_same Rest w.points i P (subst (λ n. IsProcess n i) (sym s) p)

  one : next w i ≡ solo w i w.x 0 true SetX
  unfolding solo
  one = next_at w i Rest rest ∙ ap (λ y. solo w i w.x y true SetX) free

  two : next (solo w i w.x 0 true SetX) i ≡ solo w i i 0 true TestY
  unfolding solo
  two = next_at _ i SetX (solo_point w.x 0 true SetX) ∙
      ap (λ (ps : List At). let v : State = record {
        x = i;
        y = 0;
        flags = with_process w.flags i true;
        points = ps;
      } in v) (with-with w.points i SetX TestY)

  three : next (solo w i i 0 true TestY) i ≡ solo w i i 0 true SetY
  unfolding solo
  three = next_at _ i TestY (solo_point i 0 true TestY) ∙
      ap (λ (ps : List At). let v : State = record {
        x = i;
        y = 0;
        flags = with_process w.flags i true;
        points = ps;
      } in v) (with-with w.points i TestY SetY)

  four : next (solo w i i 0 true SetY) i ≡ solo w i i i true TestX
  unfolding solo
  four = next_at _ i SetY (solo_point i 0 true SetY) ∙
      ap (λ (ps : List At). let v : State = record {
        x = i;
        y = i;
        flags = with_process w.flags i true;
        points = ps;
      } in v) (with-with w.points i SetY TestX)

  five : next (solo w i i i true TestX) i ≡ solo w i i i true Fast
  unfolding solo
  five = next_at _ i TestX (solo_point i i true TestX)
      ∙ ap (λ (ps : List At). let v : State = record {
        x = i;
        y = i;
        flags = with_process w.flags i true;
        points = ps;
      } in v)
      (with-with w.points i TestX (after_TestX i i) ∙
      ap (λ b. with_process w.points i (cond b Fast SlowB)) (eq-eqb i i refl))

  six : next (solo w i i i true Fast) i ≡ solo w i i 0 true Leaving
  unfolding solo
  six = next_at _ i Fast (solo_point i i true Fast) ∙
      ap (λ (ps : List At). let v : State = record {
        x = i;
        y = 0;
        flags = with_process w.flags i true;
        points = ps;
      } in v) (with-with w.points i Fast Leaving)

  seven : next (solo w i i 0 true Leaving) i ≡ solo w i i 0 false Rest
  unfolding solo
  seven = next_at _ i Leaving (solo_point i 0 true Leaving)
      ∙ ap (λ (ps : List At). let v : State = record {
        x = i;
        y = 0;
        flags = with_process (with_process w.flags i true) i false;
        points = ps;
      } in v)
      (with-with w.points i Leaving Rest)
      ∙ ap (λ (fs : List Bool). let v : State = record {
        x = i;
        y = 0;
        flags = fs;
        points = with_process w.points i Rest;
      } in v) (with-with w.flags i true false)

  five_steps : run w (i ∷ i ∷ i ∷ i ∷ i ∷ []) ≡ solo w i i i true Fast
  five_steps = ap (λ v. next (next (next (next v i) i) i) i) one ∙
      ap (λ v. next (next (next v i) i) i) two ∙ ap (λ v. next (next v i) i) three ∙
      ap (λ v. next v i) four ∙ five

  seven_steps : run w (i ∷ i ∷ i ∷ i ∷ i ∷ i ∷ i ∷ []) ≡ solo w i i 0 false Rest
  seven_steps = ap (λ v. next (next v i) i) five_steps ∙ ap (λ v. next v i) six ∙ seven

  pub enters_alone : point_of (run w (replicate 5 i)) i ≡ Fast
  enters_alone = ap (λ v. point_of v i) five_steps ∙ solo_point i i true Fast

  pub leaves_alone : point_of (run w (replicate 7 i)) i ≡ Rest
  leaves_alone = ap (λ v. point_of v i) seven_steps ∙ solo_point i 0 false Rest

  pub same_alone : IsSafe w → run w (replicate 7 i) ≡ state_of i 0 w.flags w.points
  unfolding solo
  same_alone k = seven_steps
      ∙ ap (λ fs. state_of i 0 fs (with_process w.points i Rest)) (with-of false w.flags i false
      (subst (λ q. FlagFits q (flag_of w i)) rest (k.safe.flag i)))
      ∙ ap (λ ps. state_of i 0 w.flags ps) (with-of Rest w.points i Rest rest)
