-- The words of a line, and the numbers that they mean.
use Rattle.std.specs.Prelude.{ℕ, ℤ, pos, neg_ℤ, Bool, ◌&&◌, ◌||◌, ◌==◌, ◌^◌, nat_lt, nat_le, List, length, filter, drop, Option, None, Some, if◌then◌else◌}
use Rattle.std.specs.List.{slice_split, list_all}
use Rattle.std.specs.Char.{is_ascii_digit}
use Rattle.std.specs.Str.Parse.{digits_value, starts_with_minus}

-- what f gives for the value, if there is one
infixl 10 ◌>>=◌
abbrev pub ◌>>=◌ : {A B : Type 0} → Option A → (A → Option B) → Option B
None >>= f = None
(Some x) >>= f = f x

-- a word of a line
abbrev pub Word : Type 0
Word = List ℕ

-- what ends a word: a space, or the line feed at the end of the line
abbrev pub is_separator : ℕ → Bool
is_separator b = b == 32 || b == 10

-- the words of a line: the pieces between separators that are not empty
abbrev pub words_of : List ℕ → List Word
words_of line = filter (λ word. nat_lt 0 (length word)) (slice_split is_separator line)

-- at least one decimal digit, with a value of at most k bits
abbrev pub is_number : ℕ → Word → Bool
is_number k word = nat_lt 0 (length word) &&
    (list_all is_ascii_digit word && nat_lt (digits_value 10 word) (2 ^ k))

-- the k-bit number that a word means
abbrev pub number_written : ℕ → Word → Option ℕ
number_written k word = if is_number k word then Some (digits_value 10 word) else None

-- a number from 1 to most
abbrev pub count_written : ℕ → Word → Option ℕ
count_written most word = do
  n ← number_written 32 word
  if nat_le 1 n && nat_le n most then Some n else None

-- the 64-bit integer that a word means: digits, or a '-' and digits
abbrev pub integer_written : Word → Option ℤ
integer_written word = if starts_with_minus word then (do
  n ← number_written 64 (drop 1 word)
  if nat_le n (2 ^ 63) then Some (neg_ℤ (pos n)) else None)
    else (do
      n ← number_written 63 word
      Some (pos n))
