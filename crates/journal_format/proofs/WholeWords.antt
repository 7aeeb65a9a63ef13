-- What lines are made of are words: each has a byte, and only bytes that are printable and no
-- spaces.
use Rattle.std.proofs.lemmas.Grind.{common_steps}
use Rattle.std.proofs.Common.{◌≡◌, ◌<◌, ◌^◌, ◌++◌, ℕ, ℤ, Bool, true, false, not, ◌==◌, ◌&&◌, List, [], ◌∷◌, length, arith, refl, ltb, All}
use Rattle.std.proofs.lemmas.Bool.{and_from, lt-ltb}
use Rattle.std.proofs.lemmas.Bool.Decides.{nat_tests}
use Rattle.std.proofs.lemmas.Fmt.{decimal_is_IsNumeral}
use Rattle.std.proofs.lemmas.List.Elements.{All-nil, All-cons}
use Rattle.std.proofs.lemmas.List.Splits.{slice_split_at}
use Rattle.std.proofs.lemmas.Str.Parse.{digit_from_value}
use Rattle.std.specs.Fmt.{decimal, signed_decimal}
use Rattle.std.specs.List.{list_all, join_with_byte, AllByRecursion}
use Rattle.std.specs.Str.Parse.{AllDigits}
use Rattle.text_io.specs.Words.{Word, is_separator, words_of}
use Rattle.journal_format.specs.Fitting.{IsLong}
use Rattle.journal_format.specs.Text.{is_line_byte}

-- printable, and no space
abbrev pub is_plain : ℕ → Bool
is_plain b = is_line_byte b && not (b == 32)

abbrev pub is_word : List ℕ → Bool
is_word w = ltb 0 (length w) && list_all is_plain w

abbrev pub IsWord : List ℕ → Type 0
IsWord w = is_word w ≡ true

-- ---- numbers

digits_plain : (ds : List ℕ) → AllDigits 10 ds → list_all is_plain ds ≡ true
digits_plain [] all = refl
digits_plain (c ∷ cs) all = grind (arith, digit_from_value, and_from, digits_plain cs all.1)

pub word-decimal : (n : ℕ) → n < 2 ^ 64 → IsWord (decimal n)
word-decimal n small = grind (arith, decimal_is_IsNumeral, and_from, lt-ltb, digits_plain)

pub word-signed : (z : ℤ) → IsLong z → IsWord (signed_decimal z)
word-signed z fits = grind (
  arith,
  word-decimal,
  decimal_is_IsNumeral,
  and_from,
  lt-ltb,
  digits_plain,
)

-- ---- lines

abbrev pub AreWords : List Word → Type 0
AreWords ws = AllByRecursion IsWord ws

pub words-append : (vs ws : List Word) → AreWords vs → AreWords ws → AreWords (vs ++ ws)
words-append [] ws first second = second
words-append (v ∷ vs) ws first second = (first.0, words-append vs ws first.1 second)

plain_parts : (w : List ℕ) → list_all is_plain w ≡ true → All (λ b. is_separator b ≡ false) w
plain_parts [] all = All-nil (λ b. is_separator b ≡ false)
plain_parts (b ∷ bs) all = All-cons (λ b. is_separator b ≡ false) b bs (grind (arith, nat_tests))
    (plain_parts bs (grind (arith, nat_tests)))

-- the first word, up to what ends it
words_of-word : (w : List ℕ) (s : ℕ) (rest : List ℕ) → IsWord w → is_separator s ≡ true →
    words_of (w ++ s ∷ rest) ≡ w ∷ words_of rest
words_of-word w s rest word ends = grind (arith, slice_split_at, plain_parts)

-- words that are separated by spaces, and a line feed, are split into these words
pub words_of-line : (ws : List Word) → AreWords ws → words_of (join_with_byte 32 ws ++ 10 ∷ []) ≡ ws
words_of-line [] words = refl
words_of-line (w ∷ []) words = words_of-word w 10 [] words.0 refl
words_of-line (w ∷ v ∷ ws) words = grind (
  arith,
  common_steps,
  words_of-word,
  words_of-line
      (v ∷ ws) words.1,
)
