-- Each line of Lamport's algorithm, applied to the words. If words and points form a world that
-- satisfies the invariant, they do so after the line. Each lemma cites the law of its line.
use Rattle.std.proofs.Common.{◌≡◌, ◌≢◌, ◌<◌, ◌≤◌, ◌+◌, ◌-◌, ℕ, zero, suc, eqb, cond, Bool, true, false, List, [], ◌∷◌, ◌++◌, set, take, drop, get_or, length, length-set, refl, sym, ap, ◌∙◌, subst, ⊎_elim, arith, get_or-set_same, get_or-set_other, eq-eqb, ne_eqb}
use Rattle.std.specs.List.{AllByRecursion as Each}
use Rattle.std.proofs.lemmas.List.{set-append_left, set-append_right, get_or_append_left, get_or-append_right, take-append-drop, length-take-le}
use Rattle.lamport_core.specs.State.{IsProcess, IsInsidePoint, after_TestX, after_SlowY}
use Rattle.lamport_core.specs.Safe.{Safe, Moves, Sets, IsPoint, moved_to}
use Rattle.lamport_core.proofs.Steps
use Rattle.lamport_core.proofs.Along.{moves_to, one_inside_at, admitted_alone}
use Rattle.lamport_core.proofs.Worlds.{rest_safe}
use Rattle.lamport_core.specs.declared.At.{At}
use Rattle.lamport_core.specs.declared.At.TheVariants.{Rest, Start, SetX, TestY, BackB, AwaitY, SetY, TestX, SlowB, Scan, SlowY, SlowAwait, Fast, Slow, Leaving}
use Rattle.fast_mutex.specs.Marks.{mark_in, ShowAnswers}
use Rattle.fast_mutex.specs.Fast.{is_inside, flag_in, IsSafeWorld, after_store, after_load}
use Rattle.std.proofs.lemmas.Bool.{false_from_ne_true}

pub moved_here : (at : ℕ → At) (k : ℕ) (q : At) → moved_to at k q k ≡ q
moved_here at k q = (moves_to at k (at k) q refl).to

pub moved_else : (at : ℕ → At) (k j : ℕ) (q : At) → j ≢ k → moved_to at k q j ≡ at j
moved_else at k j q ne = (moves_to at k (at k) q refl).others j ne

pub inside_point : (p : At) → is_inside p ≡ true → IsInsidePoint p
inside_point p e = grind arith

point_inside : (p : At) → IsInsidePoint p → is_inside p ≡ true
point_inside p h = ⊎_elim (λ e. ap is_inside e) (λ e. ap is_inside e) h

-- a store to the flag of process k, whose word is at k + 1
flag_sets : (flags : List ℕ) (k v : ℕ) (t : Bool) → 0 < k → k ≤ length flags → eqb v 1 ≡ t →
    Sets k t (flag_in flags) (flag_in (set flags (k - 1) v))
flag_sets flags k v t some wide is = grind (arith, get_or-set_same, get_or-set_other)

set_flag_word : (x y : ℕ) (flags marks : List ℕ) (k v : ℕ) → 0 < k → k ≤ length flags →
    set (x ∷ y ∷ flags ++ marks) (k + 1) v ≡ x ∷ y ∷ set flags (k - 1) v ++ marks
set_flag_word x y flags marks k v some wide = grind (arith, set-append_left)

-- the flag of process j as the word that is loaded
flag_loaded : (x y : ℕ) (flags marks : List ℕ) (j v : ℕ) → 0 < j → j ≤ length flags →
    get_or (x ∷ y ∷ flags ++ marks) (j + 1) 0 ≡ v → flag_in flags j ≡ eqb v 1
flag_loaded x y flags marks j v some wide is = grind (arith, get_or_append_left)

-- a store to the word s of process p, which is after all flags
set_mark_word : (x y n : ℕ) (flags marks : List ℕ) (p v : ℕ) → length flags ≡ n → 1 ≤ p →
    set (x ∷ y ∷ flags ++ marks) (n + 1 + p) v ≡ x ∷ y ∷ flags ++ set marks (p - 1) v
set_mark_word x y n flags marks p v wide some =
    let e : n + 1 + p ≡ suc (suc (n + (p - 1))) = omega arith in
    let d : n + (p - 1) - n ≡ p - 1 = omega arith in
    ap (λ i. set (x ∷ y ∷ flags ++ marks) i v) e ∙ ap (λ l. x ∷ y ∷ l)
    (set-append_right flags marks n (n + (p - 1)) v wide (omega arith) ∙
    ap (λ i. flags ++ set marks i v) d)

-- the word s of process p as the word that is loaded
mark_word : (x y n : ℕ) (flags marks : List ℕ) (p : ℕ) → length flags ≡ n → 1 ≤ p →
    get_or (x ∷ y ∷ flags ++ marks) (n + 1 + p) 0 ≡ mark_in marks p
mark_word x y n flags marks p wide some = grind (arith, get_or-append_right)

module _ (n : ℕ) (words marks : List ℕ) (at : ℕ → At) (w : IsSafeWorld n words marks at)
    (k : ℕ) where
  -- b[k] := v
  stores_flag : (P : At) (v : ℕ) (t : Bool) → at k ≡ P → IsProcess n k → eqb v 1 ≡ t
      → ((b' : ℕ → Bool) → Moves k P (after_store P) at (moved_to at k (after_store P)) →
      Sets k t (flag_in w.flags) b' → Safe n w.x w.y b' (moved_to at k (after_store P)))
      → IsSafeWorld n (set words (k + 1) v) marks (moved_to at k (after_store P))
  stores_flag P v t e p is law = let wide : length w.flags ≡ n = w.wide in record {
    x = w.x;
    y = w.y;
    flags = set w.flags (k - 1) v;
    is = ap (λ ws. set ws (k + 1) v) w.is ∙ set_flag_word w.x w.y w.flags marks k v p.0
        (omega (arith, p.1));
    wide = length-set w.flags (k - 1) v ∙ w.wide;
    safe = law (flag_in (set w.flags (k - 1) v)) (moves_to at k P (after_store P) e)
        (flag_sets w.flags k v t p.0 (omega (arith, p.1)) is);
  }

  pub raises_rest : at k ≡ Rest → IsProcess n k →
      IsSafeWorld n (set words (k + 1) 1) marks (moved_to at k SetX)
  raises_rest e p = stores_flag Rest 1 true e p refl (λ b' m f. Steps.at_Rest n w.x w.y k _ b'
      at _ w.safe p m f)

  pub raises_start : at k ≡ Start → IsProcess n k →
      IsSafeWorld n (set words (k + 1) 1) marks (moved_to at k SetX)
  raises_start e p = stores_flag Start 1 true e p refl (λ b' m f. Steps.at_Start n w.x w.y k _ b'
      at _ w.safe m f)

  pub lowers_back : at k ≡ BackB → IsProcess n k →
      IsSafeWorld n (set words (k + 1) 0) marks (moved_to at k AwaitY)
  lowers_back e p = stores_flag BackB 0 false e p refl (λ b' m f. Steps.at_BackB n w.x w.y k _ b'
      at _ w.safe m f)

  pub lowers_slow : at k ≡ SlowB → IsProcess n k →
      IsSafeWorld n (set words (k + 1) 0) marks (moved_to at k (Scan 1))
  lowers_slow e p = stores_flag SlowB 0 false e p refl (λ b' m f. Steps.at_SlowB n w.x w.y k _ b'
      at _ w.safe m f)

  pub lowers_leaving : at k ≡ Leaving → IsProcess n k →
      IsSafeWorld n (set words (k + 1) 0) marks (moved_to at k Rest)
  lowers_leaving e p = stores_flag Leaving 0 false e p refl (λ b' m f. Steps.at_Leaving n w.x w.y k
      _ b' at _ w.safe m f)

  -- x := k
  pub sets_x : at k ≡ SetX → IsSafeWorld n (set words 0 k) marks (moved_to at k TestY)
  sets_x e = record {
    x = k;
    y = w.y;
    flags = w.flags;
    is = ap (λ ws. set ws 0 k) w.is;
    wide = w.wide;
    safe = Steps.at_SetX n w.x w.y k _ at _ w.safe (moves_to at k SetX TestY e);
  }

  -- y := k
  pub sets_y : at k ≡ SetY → IsSafeWorld n (set words 1 k) marks (moved_to at k TestX)
  sets_y e = record {
    x = w.x;
    y = k;
    flags = w.flags;
    is = ap (λ ws. set ws 1 k) w.is;
    wide = w.wide;
    safe = Steps.at_SetY n w.x w.y k _ at _ w.safe (moves_to at k SetY TestX e);
  }

  -- y := 0
  clears_y : (P : At) → at k ≡ P →
      (Moves k P Leaving at (moved_to at k Leaving) → Safe n w.x 0 (flag_in w.flags)
      (moved_to at k Leaving)) → IsSafeWorld n (set words 1 0) marks (moved_to at k Leaving)
  clears_y P e law = record {
    x = w.x;
    y = 0;
    flags = w.flags;
    is = ap (λ ws. set ws 1 0) w.is;
    wide = w.wide;
    safe = law (moves_to at k P Leaving e);
  }

  pub leaves_world : IsInsidePoint (at k) →
      IsSafeWorld n (set words 1 0) marks (moved_to at k Leaving)
  leaves_world h = ⊎_elim (λ e. clears_y Fast e (λ m. Steps.at_Fast n w.x w.y k _ at _ w.safe m))
      (λ e. clears_y Slow e (λ m. Steps.at_Slow n w.x w.y k _ at _ w.safe m)) h

  -- a load changes no word
  loads : (Q : At) → Safe n w.x w.y (flag_in w.flags) (moved_to at k Q) →
      IsSafeWorld n words marks (moved_to at k Q)
  loads Q h = record { x = w.x; y = w.y; flags = w.flags; is = w.is; wide = w.wide; safe = h }

  x_is : get_or words 0 0 ≡ w.x
  x_is = ap (λ ws. get_or ws 0 0) w.is

  y_is : get_or words 1 0 ≡ w.y
  y_is = ap (λ ws. get_or ws 1 0) w.is

  pub loads_test_y : at k ≡ TestY →
      IsSafeWorld n words marks (moved_to at k (after_load n TestY (get_or words 1 0)))
  loads_test_y e = loads _ (Steps.at_TestY n w.x w.y k _ at _ w.safe (get_or words 1 0) (sym y_is)
      (moves_to at k TestY _ e))

  pub loads_await_y : at k ≡ AwaitY →
      IsSafeWorld n words marks (moved_to at k (after_load n AwaitY (get_or words 1 0)))
  loads_await_y e = loads _ (Steps.at_AwaitY n w.x w.y k _ at _ w.safe (get_or words 1 0) (sym y_is)
      (moves_to at k AwaitY _ e))

  pub loads_slow_await : at k ≡ SlowAwait →
      IsSafeWorld n words marks (moved_to at k (after_load n SlowAwait (get_or words 1 0)))
  loads_slow_await e = loads _ (Steps.at_SlowAwait n w.x w.y k _ at _ w.safe (get_or words 1 0)
      (sym y_is) (moves_to at k SlowAwait _ e))

  pub loads_flag : (j : ℕ) → at k ≡ Scan j →
      IsSafeWorld n words marks (moved_to at k (after_load n (Scan j) (get_or words (j + 1) 0)))
  loads_flag j e =
      let p : IsProcess n j = subst (IsPoint n) e (w.safe.point k) in
      let v : ℕ = get_or words (j + 1) 0 in
      let is : flag_in w.flags j ≡ eqb v 1 = let wide : length w.flags ≡ n = w.wide in
      flag_loaded w.x w.y w.flags marks j v p.0 (omega (arith, p.1))
      (ap (λ ws. get_or ws (j + 1) 0) (sym w.is)) in
      loads _ (Steps.at_Scan n w.x w.y k _ at _ w.safe j (eqb v 1) is (moves_to at k (Scan j) _ e))

  loads_x : (v : ℕ) → get_or words 0 0 ≡ v → at k ≡ TestX →
      IsSafeWorld n words marks (moved_to at k (after_TestX k v))
  loads_x v is e = loads _ (Steps.at_TestX n w.x w.y k _ at _ w.safe v (sym x_is ∙ is)
      (moves_to at k TestX _ e))

  loads_slow_y : (v : ℕ) → get_or words 1 0 ≡ v → at k ≡ SlowY →
      IsSafeWorld n words marks (moved_to at k (after_SlowY k v))
  loads_slow_y v is e = loads _ (Steps.at_SlowY n w.x w.y k _ at _ w.safe v (sym y_is ∙ is)
      (moves_to at k SlowY _ e))

  -- the load of x that finds k, and that finds another number
  pub admits_fast : get_or words 0 0 ≡ k → at k ≡ TestX →
      IsSafeWorld n words marks (moved_to at k Fast)
  admits_fast is e = let P : Bool →
      Type 0 = λ t. IsSafeWorld n words marks (moved_to at k (cond t Fast SlowB)) in
      subst P (eq-eqb k k refl) (loads_x k is e)

  pub refuses_fast : get_or words 0 0 ≢ k → at k ≡ TestX →
      IsSafeWorld n words marks (moved_to at k SlowB)
  refuses_fast ne e = let P : Bool →
      Type 0 = λ t. IsSafeWorld n words marks (moved_to at k (cond t Fast SlowB)) in
      subst P (ne_eqb (get_or words 0 0) k ne) (loads_x _ refl e)

  -- the same of the load of y at SlowY
  pub admits_slow : get_or words 1 0 ≡ k → at k ≡ SlowY →
      IsSafeWorld n words marks (moved_to at k Slow)
  admits_slow is e = let P : Bool →
      Type 0 = λ t. IsSafeWorld n words marks (moved_to at k (cond t Slow SlowAwait)) in
      subst P (eq-eqb k k refl) (loads_slow_y k is e)

  pub refuses_slow : get_or words 1 0 ≢ k → at k ≡ SlowY →
      IsSafeWorld n words marks (moved_to at k SlowAwait)
  refuses_slow ne e = let P : Bool →
      Type 0 = λ t. IsSafeWorld n words marks (moved_to at k (cond t Slow SlowAwait)) in
      subst P (ne_eqb (get_or words 1 0) k ne) (loads_slow_y _ refl e)

  -- at most one process is in its critical section
  pub others_outside : is_inside (at k) ≡ true → (j : ℕ) → j ≢ k → is_inside (at j) ≡ false
  others_outside i j ne = false_from_ne_true (is_inside (at j))
      (λ h. ne (one_inside_at n w.x w.y _ at w.safe j k (inside_point (at j) h)
      (inside_point (at k) i)))

-- the words s are no part of the condition
module _ (n : ℕ) (words marks : List ℕ) (at : ℕ → At) (w : IsSafeWorld n words marks at) where
  pub sets_mark : (p v : ℕ) → 1 ≤ p →
      IsSafeWorld n (set words (n + 1 + p) v) (set marks (p - 1) v) at
  sets_mark p v some = record {
    x = w.x;
    y = w.y;
    flags = w.flags;
    is = ap (λ ws. set ws (n + 1 + p) v) w.is ∙ set_mark_word w.x w.y n w.flags marks
        p v w.wide some;
    wide = w.wide;
    safe = w.safe;
  }

  pub mark_loaded : (p : ℕ) → 1 ≤ p → get_or words (n + 1 + p) 0 ≡ mark_in marks p
  mark_loaded p some = ap (λ ws. get_or ws (n + 1 + p) 0) w.is ∙ mark_word w.x w.y n w.flags
      marks p w.wide some

-- a process that a step takes into its critical section found no other there
pub found_nobody : (n : ℕ) (words marks : List ℕ) (at : ℕ → At) (k : ℕ) (P Q : At) →
    IsSafeWorld n words marks (moved_to at k Q) → at k ≡ P → is_inside P ≡ false →
    is_inside Q ≡ true → (j : ℕ) → is_inside (at j) ≡ false
found_nobody n words marks at k P Q w e out i j = grind (
  arith,
  false_from_ne_true,
  admitted_alone,
  moves_to,
  inside_point,
)

-- at the start x, y and the flags are 0 and each process is at rest
module _ where
  zeros_at : (zs : List ℕ) (k : ℕ) → Each (λ (z : ℕ). z ≡ 0) zs → get_or zs k 0 ≡ 0
  zeros_at [] k h = refl
  zeros_at (z ∷ zs) zero h = h.0
  zeros_at (z ∷ zs) (suc k) h = zeros_at zs k h.1

  flags_down : (zs : List ℕ) → Each (λ (z : ℕ). z ≡ 0) zs → (k : ℕ) → flag_in zs k ≡ false
  flags_down zs h zero = refl
  flags_down zs h (suc k) = ap (λ z. eqb z 1) (zeros_at zs k h)

  front_zeros : (zs : List ℕ) (n : ℕ) → ((i : ℕ) → i < n → get_or zs i 0 ≡ 0) →
      Each (λ (z : ℕ). z ≡ 0) (take n zs)
  front_zeros [] zero h = tt
  front_zeros [] (suc n) h = tt
  front_zeros (z ∷ zs) zero h = tt
  front_zeros (z ∷ zs) (suc n) h =
      (h 0 (omega arith), front_zeros zs n (λ i lt. h (suc i) (omega arith)))

  pub starting_world : {I : Type 0} (answered : ℕ → List I → Bool) (n : ℕ) (now : List I)
      (words : List ℕ) → ShowAnswers answered n now words →
      IsSafeWorld n words (drop n (drop 2 words)) (λ _. Rest)
  starting_world answered n now [] first = let wide = first.wide in absurd (omega arith)
  starting_world answered n now (x ∷ []) first = let wide = first.wide in absurd (omega arith)
  starting_world answered n now (x ∷ y ∷ rest) first = let wide = first.wide in record {
    x = 0;
    y = 0;
    flags = take n rest;
    is = (λ i. first.low 0 (omega arith) i ∷ first.low 1 (omega arith) i ∷ rest) ∙
        ap (λ l. 0 ∷ 0 ∷ l) (sym (take-append-drop n rest));
    wide = length-take-le n rest (omega arith);
    safe = rest_safe n 0 0 _ _ (λ i. refl) (flags_down (take n rest)
        (front_zeros rest n (λ i lt. first.low (suc (suc i)) (omega arith))));
  }
