-- What the words s show, from step to step.
use Rattle.std.proofs.Common.{◌≡◌, ◌≢◌, ◌⊎◌, ◌≤◌, ◌<◌, ◌+◌, ◌-◌, ◌*◌, ◌%◌, ◌/◌, ◌^◌, ℕ, zero, suc, cond, Bool, true, false, List, [], ◌∷◌, ◌++◌, set, drop, length, length-set, length-drop, sym, refl, ap, ◌∙◌, subst, ⊎_elim, arith, eq-eqb, ne_eqb, get_or-set_same, get_or-set_other}
use Rattle.std.specs.List.{All, AllByRecursion as Each}
use Rattle.std.proofs.lemmas.List.Elements.{All-from_recursion, recursion_from_All}
use Rattle.std.proofs.Math.Decide.{dec_lt}
use Rattle.std.proofs.Math.Nat.{pow-succ'}
use Rattle.std.proofs.Math.Pow.{pow_mono}
use mathlib.Core.Logic.{dite}
use native.Mathlib.Decide.{ℕ_discrete}
use Rattle.lamport_core.specs.declared.At.{At}
use Rattle.lamport_core.specs.declared.At.TheVariants.{Rest}
use Rattle.fast_mutex.specs.Items.{items_of, Grows, GrowsBy}
use Rattle.fast_mutex.specs.Marks.{flag, mark_in, has, answer_bits, Course, Marked, ShowAnswers}
use Rattle.fast_mutex.specs.Fast.{is_inside, IsSafeWorld}
use Rattle.fast_mutex.proofs.Sums.{each_weaker}
use Rattle.fast_mutex.proofs.FastWorld.{mark_loaded}

split : (b : Bool) (P : Bool → Type 0) → (b ≡ true → P true) → (b ≡ false → P false) → P b
split b P f g = grind arith

flag_up : (b : Bool) → flag b ≡ 1 → b ≡ true
flag_up b e = grind arith

has_here : (p : ℕ) (qs : List ℕ) → has p (p ∷ qs) ≡ true
has_here p qs = ap (λ b. cond b true (has p qs)) (eq-eqb p p refl)

has_else : (p q : ℕ) (qs : List ℕ) → p ≢ q → has p (q ∷ qs) ≡ has p qs
has_else p q qs ne = ap (λ b. cond b true (has p qs)) (ne_eqb p q ne)

set_mark_here : (marks : List ℕ) (p v : ℕ) → 1 ≤ p → p ≤ length marks →
    mark_in (set marks (p - 1) v) p ≡ v
set_mark_here marks p v low high = grind (arith, get_or-set_same)

set_mark_else : (marks : List ℕ) (p q v : ℕ) → 1 ≤ p → q ≢ p →
    mark_in (set marks (p - 1) v) q ≡ mark_in marks q
set_mark_else marks p q v low ne = grind (arith, get_or-set_other)

module _ {I : Type 0} (answered : ℕ → List I → Bool) (n : ℕ) where
  -- the course after a store of the word of p, which fixes the list to come
  abbrev pub course_marked : ℕ → List I → Course I → Course I
  course_marked p given c = record {
    now = c.now;
    next = given;
    done = p ∷ c.done;
    marks = set c.marks (p - 1) (flag (answered p given));
  }

  -- the list to come may be fixed by this store, or was by one before
  kept : (c : Course I) (given : List I) → (given ≡ c.next) ⊎ (c.done ≡ []) → (q : ℕ) →
      answered q (cond (has q c.done) c.next c.now) ≡ answered q (cond (has q c.done) given c.now)
  kept c given same q = ⊎_elim (λ e. ap (λ l. answered q (cond (has q c.done) l c.now)) (sym e))
      (λ none_yet. let no : has q c.done ≡ false = ap (has q) none_yet in
      ap (λ b. answered q (cond b c.next c.now)) no ∙ ap (λ b. answered q (cond b given c.now))
      (sym no)) same

  pub marks_stored : (c : Course I) (p : ℕ) (given : List I) → Marked answered n c →
      (given ≡ c.next) ⊎ (c.done ≡ []) → 1 ≤ p → p ≤ n → Marked answered n (course_marked p given c)
  marks_stored c p given m same some few = (
    length-set c.marks (p - 1) (flag (answered p given)) ∙ m.0,
    λ q low high. dite (ℕ_discrete q p)
        (λ e. let wide : length c.marks ≡ n = m.0 in
        let P : ℕ → Type 0 = λ z. mark_in (set c.marks (p - 1) (flag (answered p given))) z ≡
        flag (answered z (cond (has z (p ∷ c.done)) given c.now)) in
        subst P (sym e) (set_mark_here c.marks p (flag (answered p given)) some (omega arith) ∙
        ap (λ b. flag (answered p (cond b given c.now))) (sym (has_here p c.done))))
        (λ ne. set_mark_else c.marks p q (flag (answered p given)) some ne ∙ m.1 q low high ∙
        ap flag (kept c given same q) ∙ ap (λ b. flag (answered q (cond b given c.now)))
        (sym (has_else q p c.done ne))),
  )

  -- the course after the store of 0 to y
  abbrev pub course_left : List I → Course I → Course I
  course_left given c = record { now = given; next = given; done = []; marks = c.marks }

  pub marks_left : (c : Course I) (given : List I) → Marked answered n c →
      (given ≡ c.next) ⊎ (c.done ≡ []) →
      ((p : ℕ) → 1 ≤ p → p ≤ n → has p c.done ≡ false → answered p c.now ≡ answered p given) →
      Marked answered n (course_left given c)
  marks_left c given m same unstored = (
    m.0,
    λ p low high. split (has p c.done) (λ b. has p c.done ≡ b → mark_in c.marks p ≡
        flag (answered p given))
        (λ _ up. ⊎_elim (λ e. m.1 p low high ∙ ap (λ b. flag (answered p (cond b c.next c.now)))
        up ∙ ap (λ l. flag (answered p l)) (sym e))
        (λ none_yet. let q : true ≡ false = sym up ∙ ap (has p) none_yet in absurd (cc)) same)
        (λ _ down. m.1 p low high ∙ ap (λ b. flag (answered p (cond b c.next c.now))) down ∙
        ap flag (unstored p low high down)) refl,
  )

  -- at the start the words show the answers in the list that the lock begins with
  pub marks_new : (now : List I) (words : List ℕ) → ShowAnswers answered n now words →
      IsSafeWorld n words (drop n (drop 2 words)) (λ _. Rest) →
      Marked answered n record { now = now; next = now; done = []; marks = drop n (drop 2 words) }
  marks_new now words first safe = (
    (let all = length-drop 2 words in let some = length-drop n (drop 2 words) in
        let wide = first.wide in omega arith),
    λ p low high. sym (mark_loaded n words (drop n (drop 2 words)) (λ _. Rest) safe p low) ∙
        first.marks p low high,
  )

  -- a process whose poll was true finds its wait answered, if no process is in its critical section
  pub shown_now : (c : Course I) → Marked answered n c → c.done ≡ [] → (p : ℕ) → 1 ≤ p → p ≤ n →
      mark_in c.marks p ≡ 1 → answered p c.now ≡ true
  shown_now c m none_yet p low high up = let no : has p c.done ≡ false = ap (has p) none_yet in
      flag_up (answered p c.now) (ap (λ b. flag (answered p (cond b c.next c.now))) (sym no) ∙
      sym (m.1 p low high) ∙ up)

  module _ (author : I → ℕ) (stays : (p : ℕ) (more before : List I) → All (λ x. author x ≢ p) more →
      answered p before ≡ true → answered p (more ++ before) ≡ true) where
    lacks : (p : ℕ) (xs : List I) → items_of author p xs ≡ [] → Each (λ x. author x ≢ p) xs
    lacks p [] e = tt
    lacks p (x ∷ xs) e = dite (ℕ_discrete (author x) p)
        (λ q. let h : x ∷ items_of author p xs ≡ [] = ap (λ b. cond b (x ∷ items_of author p xs)
        (items_of author p xs)) (sym (eq-eqb (author x) p q)) ∙ e in absurd (cc))
        (λ nq. (
          nq,
          lacks p xs (ap (λ b. cond b (x ∷ items_of author p xs) (items_of author p xs))
              (sym (ne_eqb (author x) p nq)) ∙ e),
        ))

    -- what k adds takes no answer of p away
    still : (k p : ℕ) (now next : List I) → k ≢ p → GrowsBy author k now next →
        answered p now ≡ true → answered p next ≡ true
    still k p now next ne g a = let others : Each (λ x. author x ≢ p) g.behind =
        each_weaker (λ x. author x ≡ k) (λ x. author x ≢ p) (λ x e q. ne (sym e ∙ q)) g.behind
        (recursion_from_All (λ x. author x ≡ k) g.behind g.mine) in
        ap (answered p) g.is ∙ stays p g.behind now (All-from_recursion (λ x. author x ≢ p)
        g.behind others) a

    still_seen : (p : ℕ) (left now : List I) → Grows author p left now [] → answered p left ≡ true →
        answered p now ≡ true
    still_seen p left now g a = ap (answered p) g.is ∙ stays p g.behind left
        (All-from_recursion (λ x. author x ≢ p) g.behind (lacks p g.behind g.mine)) a

    -- a process in its critical section is another than one outside
    apart : (at : ℕ → At) (k p : ℕ) → is_inside (at k) ≡ true → is_inside (at p) ≡ false → k ≢ p
    apart at k p i o e = let q : true ≡ false = sym i ∙ ap (λ z. is_inside (at z)) e ∙ o in
        absurd (cc)

    module _ (at : ℕ → At) (c : Course I) (comes : (c.next ≡ c.now) ⊎
        ((k : ℕ) × (is_inside (at k) ≡ true) × GrowsBy author k c.now c.next))
        (m : Marked answered n c)
        (p : ℕ) (out : is_inside (at p) ≡ false) (low : 1 ≤ p) (high : p ≤ n) where
      still_next : answered p c.now ≡ true → answered p c.next ≡ true
      still_next a = ⊎_elim (λ e. ap (answered p) e ∙ a) (λ t. still t.0 p c.now c.next
          (apart at t.0 p t.1 out) t.2 a) comes

      -- a word that is 1 shows that the list to come answers its process
      pub shown_next : mark_in c.marks p ≡ 1 → answered p c.next ≡ true
      shown_next up = let a : answered p (cond (has p c.done) c.next c.now) ≡ true =
          flag_up (answered p (cond (has p c.done) c.next c.now)) (sym (m.1 p low high) ∙ up) in
          split (has p c.done) (λ b. answered p (cond b c.next c.now) ≡ true → answered p c.next ≡
          true) (λ _ h. h) (λ _ h. still_next h) a

      -- if the list that p last left answers it, the word is 1
      pub shown_left : (left : List I) → Grows author p left c.now [] → answered p left ≡ true →
          mark_in c.marks p ≡ 1
      shown_left left g a = let here : answered p c.now ≡ true = still_seen p left c.now g a in
          let both : answered p (cond (has p c.done) c.next c.now) ≡ true = split (has p c.done)
          (λ b. answered p (cond b c.next c.now) ≡ true) (λ _. still_next here) (λ _. here) in
          m.1 p low high ∙ ap flag both

      -- a word that is 1 keeps that value if another process stores words
      pub shown_on : (k q : ℕ) (given : List I) → is_inside (at k) ≡ true →
          GrowsBy author k c.now given → (given ≡ c.next) ⊎ (c.done ≡ []) → 1 ≤ q → q ≤ n →
          mark_in c.marks p ≡ 1 → mark_in (set c.marks (q - 1) (flag (answered q given))) p ≡ 1
      shown_on k q given i g same some few up = dite (ℕ_discrete p q)
          (λ e. let wide : length c.marks ≡ n = m.0 in
          let a : answered p given ≡ true = ⊎_elim (λ d. ap (answered p) d ∙ shown_next up)
          (λ none_yet. let no : has p c.done ≡ false = ap (has p) none_yet in
          let word : flag (answered p c.now) ≡ 1 = ap (λ b. flag (answered p (cond b c.next c.now)))
          (sym no) ∙ sym (m.1 p low high) ∙ up in
          still k p c.now given (apart at k p i out) g (flag_up (answered p c.now) word)) same in
          let P : ℕ → Type 0 = λ z. mark_in (set c.marks (z - 1) (flag (answered z given))) p ≡ 1 in
          subst P e (set_mark_here c.marks p (flag (answered p given)) low (omega arith) ∙
          ap flag a))
          (λ ne. set_mark_else c.marks q p (flag (answered q given)) some ne ∙ up)

-- answers as the bits of one number
bit_low : (a b : Bool) (x y : ℕ) → flag a + 2 * x ≡ flag b + 2 * y → (a ≡ b) × (x ≡ y)
bit_low a b x y e = grind arith

pub bits_same : (f g : ℕ → Bool) (k m : ℕ) → answer_bits f k m ≡ answer_bits g k m → (q : ℕ) →
    k ≤ q → q < k + m → f q ≡ g q
unfolding answer_bits
bits_same f g k zero e q low high = absurd (omega arith)
bits_same f g k (suc m) e q low high = let b = bit_low (f k) (g k) _ _ e in dite (ℕ_discrete k q)
    (λ is. let P : ℕ → Type 0 = λ z. f z ≡ g z in subst P is b.0)
    (λ ne. bits_same f g (suc k) m b.1 q (omega arith) (omega arith))

bit_parts : (b : Bool) (x w : ℕ) → w ≡ flag b + 2 * x → (w % 2 ≡ flag b) × (w / 2 ≡ x)
bit_parts b x w e = grind arith

-- the lowest bit, and the others
pub bits_step : (f : ℕ → Bool) (k m n w : ℕ) → n ≡ suc m → w ≡ answer_bits f k n →
    (w % 2 ≡ flag (f k)) × (w / 2 ≡ answer_bits f (suc k) m)
unfolding answer_bits
bits_step f k m n w size e = bit_parts (f k) (answer_bits f (suc k) m) w
    (e ∙ ap (answer_bits f k) size)

pub bits_next : (f : ℕ → Bool) (k w : ℕ) → w / 2 ≡ answer_bits f (suc k) (32 - k) →
    w / 2 ≡ answer_bits f (k + 1) (33 - (k + 1))
bits_next f k w e = let next : suc k ≡ k + 1 = omega arith in let left : 32 - k ≡ 33 - (k + 1) =
    omega arith in e ∙ (λ i. answer_bits f (next i) (left i))

-- one bit more
pub bits_more : (f : ℕ → Bool) (k m : ℕ) → flag (f k) + 2 * answer_bits f (suc k) m ≡
    answer_bits f k (suc m)
unfolding answer_bits
bits_more f k m = refl

pub bits_empty : (f : ℕ → Bool) (k : ℕ) → answer_bits f k 0 ≡ 0
unfolding answer_bits
bits_empty f k = refl

pub flag_small : (b : Bool) → flag b ≤ 1
flag_small b = grind arith

pub bits_small : (f : ℕ → Bool) (k m : ℕ) → answer_bits f k m < 2 ^ m
unfolding answer_bits
bits_small f k zero = omega arith
bits_small f k (suc m) = let h = bits_small f (suc k) m in let b = flag_small (f k) in let p =
    pow-succ' 2 m in omega arith

-- the bits of the processes from k on, given those above k
module _ (f : ℕ → Bool) (k bits : ℕ) (one : 0 < k) (few : k ≤ 32) (is : bits ≡ answer_bits f
    (k + 1) (32 - k)) where
  pub bits_down : 2 * bits + flag (f k) ≡ answer_bits f (k - 1 + 1) (32 - (k - 1))
  bits_down = let next : k + 1 ≡ suc k = omega arith in
      let here : k ≡ k - 1 + 1 = omega arith in
      let left : suc (32 - k) ≡ 32 - (k - 1) = omega arith in
      let above : bits ≡ answer_bits f (suc k) (32 - k) =
      is ∙ ap (λ z. answer_bits f z (32 - k)) next in
      let sum : 2 * bits + flag (f k) ≡ flag (f k) + 2 * answer_bits f (suc k) (32 - k) =
      omega arith in
      sum ∙ bits_more f k (32 - k) ∙ (λ i. answer_bits f (here i) (left i))

  pub bits_room : 2 * bits + 1 < 2 ^ 32
  bits_room = let h = bits_small f (k + 1) (32 - k) in let m : 2 ^ (32 - k) ≤ 2 ^ 31 =
      pow_mono {i = 32 - k} {j = 31} (omega arith) in omega arith

pub flag_same : (a b : Bool) → flag a ≡ flag b → a ≡ b
flag_same a b e = grind arith

-- The words up to that of process k are done. `stored` has those that differ.
module _ {I : Type 0} (answered : ℕ → List I → Bool) (found given : List I) where
  abbrev pub Done : ℕ → List ℕ → Type 0
  Done k stored = (q : ℕ) → 1 ≤ q → q < k → has q stored ≡ false →
      answered q found ≡ answered q given

  pub done_none : (stored : List ℕ) → Done 1 stored
  done_none stored q low high not_in = absurd (omega arith)

  pub done_same : (k : ℕ) (stored : List ℕ) → answered k found ≡ answered k given → Done k stored →
      Done (k + 1) stored
  done_same k stored same d q low high not_in = dite (ℕ_discrete k q)
      (λ e. let P : ℕ → Type 0 = λ z. answered z found ≡ answered z given in subst P e same)
      (λ ne. d q low (omega arith) not_in)

  pub done_stored : (k : ℕ) (stored : List ℕ) → Done k stored → Done (k + 1) (k ∷ stored)
  done_stored k stored d q low high not_in = dite (ℕ_discrete q k)
      (λ e. let yes : has q (k ∷ stored) ≡ true = ap (λ z. has q (z ∷ stored)) (sym e) ∙
      has_here q stored in let z : true ≡ false = sym yes ∙ not_in in absurd (cc))
      (λ ne. d q low (omega arith) (sym (has_else q k stored ne) ∙ not_in))

  -- if the remaining bits are the same, or belong to no process, all words are done
  pub done_all : (k m n w : ℕ) (stored : List ℕ) → w ≡ answer_bits (λ p. answered p found) k m →
      w ≡ answer_bits (λ p. answered p given) k m → n < k + m → Done k stored → (q : ℕ) → 1 ≤ q →
      q ≤ n → has q stored ≡ false → answered q found ≡ answered q given
  done_all k m n w stored e f wide d q low high not_in =
      dite (dec_lt q k) (λ below. d q low below not_in) (λ above. bits_same (λ p. answered p found)
      (λ p. answered p given) k m (sym e ∙ f) q (omega arith) (omega arith))
