-- The word of a caller reads as that caller.
use Rattle.std.proofs.Common.{◌≡◌, ◌<◌, ◌≤◌, ◌+◌, ◌-◌, ◌*◌, ◌^◌, ◌++◌, ℕ, suc, true, false, ◌==◌, List, [], ◌∷◌, length, length-append, drop, nat_le, arith, refl, ◌∙◌, ltb, Some, None}
use Rattle.std.proofs.Math.Nat.{mod-add-div}
use Rattle.std.proofs.Math.Seq.{take-append_seam}
use Rattle.std.proofs.lemmas.Bool.{and_from, and_parts, lt-ltb}
use Rattle.std.proofs.lemmas.Bool.Decides.{nat_tests}
use Rattle.std.proofs.lemmas.Fmt.{decimal_is_IsNumeral}
use Rattle.std.proofs.lemmas.Str.Parse.{digit_from_value}
use Rattle.std.specs.Fmt.{decimal}
use Rattle.std.specs.List.{list_all, position, position_or_len}
use Rattle.std.specs.Str.Parse.{AllDigits}
use Rattle.text_io.specs.Words.{Word}
use Rattle.mq_model.specs.Threads.{owner_of}
use Rattle.mq_model.proofs.Mates.{owner_few}
use Rattle.mq_model.proofs.Places.{split}
use Rattle.journal_format.specs.Text.{caller_word, thread_of}
use Rattle.journal_format.specs.Reading.{caller_at, caller_by, caller_written, word_at}
use Rattle.journal_format.proofs.Numbers.{number_again}
use Rattle.journal_format.proofs.WholeWords.{IsWord, is_plain, word-decimal}

-- ---- the first dot

none_in : (w : List ℕ) → AllDigits 10 w → position_or_len (λ b. b == 46) w ≡ length w
none_in [] all = refl
none_in (c ∷ cs) all = grind (arith, nat_tests, digit_from_value, none_in cs all.1)

none_before : (w rest : List ℕ) → AllDigits 10 w → position_or_len (λ b. b == 46) (w ++ 46 ∷ rest) ≡
    length w
none_before [] rest all = refl
none_before (c ∷ cs) rest all = grind (
  arith,
  nat_tests,
  digit_from_value,
  none_before cs rest all.1,
)

no_dot : (w : List ℕ) → AllDigits 10 w → position (λ b. b == 46) w ≡ None
no_dot w all = rw (none_in w all) (grind (arith, nat_tests))

dot_at : (w rest : List ℕ) → AllDigits 10 w → position (λ b. b == 46) (w ++ 46 ∷ rest) ≡
    Some (length w)
dot_at w rest all = rw (none_before w rest all, length-append w (46 ∷ rest))
    (grind (arith, nat_tests))

drop_dot : (w rest : List ℕ) → drop (length w + 1) (w ++ 46 ∷ rest) ≡ rest
drop_dot [] rest = refl
drop_dot (c ∷ cs) rest = let more : length (c ∷ cs) + 1 ≡ suc (length cs + 1) = omega arith in
    rw more (drop_dot cs rest)

-- ---- a process and a thread

-- a number above 32 is put together from its process and its thread
put_together : (p : ℕ) → 32 < p → owner_of p + (thread_of p - 1) * 32 ≡ p
unfolding owner_of
put_together p more =
    let other : nat_le p 32 ≡ false = grind (arith, nat_tests) in
    let parts = mod-add-div (p - 1) 32 in
    rw other (omega (arith, parts, more))

thread_small : (p : ℕ) → 32 < p → thread_of p ≤ p
thread_small p more = let parts = mod-add-div (p - 1) 32 in omega (arith, parts, more)

by_again : (p : ℕ) → 32 < p → p < 2 ^ 32 → caller_by (owner_of p) (thread_of p) ≡ Some p
by_again p more fits = rw (put_together p more) (grind (arith, nat_tests))

-- ---- words

digits : (n : ℕ) → n < 2 ^ 64 → AllDigits 10 (decimal n)
digits n small = (decimal_is_IsNumeral n small).0.1

pub above : (p : ℕ) → nat_le p 32 ≡ false → 32 < p
above p f = grind (arith, nat_tests)

-- the numbers of the process and the thread of a caller above 32
pub record IsSmall (p : ℕ) : Type 0 where
  pub process : owner_of p < 2 ^ 32
  pub long_process : owner_of p < 2 ^ 64
  pub thread : thread_of p < 2 ^ 32
  pub long_thread : thread_of p < 2 ^ 64

pub small : (p : ℕ) → 32 < p → p < 2 ^ 32 → IsSmall p
small p more fits =
    let few = owner_few p in
    let less = thread_small p more in
    record {
      process = omega (arith, few);
      long_process = omega (arith, few);
      thread = omega (arith, less, fits);
      long_thread = omega (arith, less, fits);
    }

-- a word with a dot reads as what is around the dot
around_again : (process thread : ℕ) → process < 2 ^ 32 → process < 2 ^ 64 → thread < 2 ^ 32 →
    thread < 2 ^ 64 → caller_written (decimal process ++ 46 ∷ decimal thread) ≡
    caller_by process thread
unfolding caller_written
around_again process thread p_fits p_long t_fits t_long =
    rw (
      dot_at (decimal process) (decimal thread) (digits process p_long),
      take-append_seam (decimal process) (46 ∷ decimal thread),
      drop_dot (decimal process) (decimal thread),
      number_again 32 process p_fits p_long,
      number_again 32 thread t_fits t_long,
    )
    refl

first_again : (p : ℕ) → p < 2 ^ 32 → p < 2 ^ 64 → caller_written (decimal p) ≡ Some p
unfolding caller_written
first_again p fits long = rw (no_dot (decimal p) (digits p long), number_again 32 p fits long) refl

caller_again : (p : ℕ) → p < 2 ^ 32 → caller_written (caller_word p) ≡ Some p
caller_again p fits = split (nat_le p 32)
    (λ t. rw t (first_again p fits (omega (arith, fits))))
    (λ f.
    let more = above p f in
    let s = small p more fits in
    rw f (around_again (owner_of p) (thread_of p) s.process s.long_process s.thread s.long_thread ∙
    by_again p more fits))

pub caller_at_again : (p : ℕ) (ws : List Word) → p < 2 ^ 32 →
    caller_at (caller_word p ∷ ws) ≡ Some (p, ws)
unfolding caller_at word_at
caller_at_again p ws fits = rw (caller_again p fits) refl

plain-append : (xs ys : List ℕ) → list_all is_plain xs ≡ true → list_all is_plain ys ≡ true →
    list_all is_plain (xs ++ 46 ∷ ys) ≡ true
plain-append [] ys first second = second
plain-append (x ∷ xs) ys first second =
    let parts = and_parts (is_plain x) (list_all is_plain xs) first in
    and_from (is_plain x) (list_all is_plain (xs ++ 46 ∷ ys)) parts.0
    (plain-append xs ys parts.1 second)

joined : (v w : Word) → IsWord v → IsWord w → IsWord (v ++ 46 ∷ w)
joined v w first second =
    let front = and_parts (ltb 0 (length v)) (list_all is_plain v) first in
    let back = and_parts (ltb 0 (length w)) (list_all is_plain w) second in
    let some : 0 < length (v ++ 46 ∷ w) = omega (arith, length-append v (46 ∷ w)) in
    and_from (ltb 0 (length (v ++ 46 ∷ w))) (list_all is_plain (v ++ 46 ∷ w))
    (lt-ltb 0 (length (v ++ 46 ∷ w)) some) (plain-append v w front.1 back.1)

pub word-caller : (p : ℕ) → p < 2 ^ 32 → IsWord (caller_word p)
word-caller p fits = split (nat_le p 32)
    (λ t. rw t (word-decimal p (omega (arith, fits))))
    (λ f.
    let s = small p (above p f) fits in
    rw f (joined (decimal (owner_of p)) (decimal (thread_of p))
    (word-decimal (owner_of p) s.long_process) (word-decimal (thread_of p) s.long_thread)))
