-- What was read from an input, and what may still be read.
use Rattle.std.specs.Prelude.{◌≡◌, ◌⊎◌, ℕ, ◌+◌, ◌<◌, ◌≤◌, ◌==◌, true, false, List, ◌++◌, length, count_by, take, Option}
use Rattle.std.specs.List.{list_all}
use Rattle.std.specs.Io.KnownBytes.{Consumes, IsAtEnd}
use Rattle.journal_format.specs.Text.{can_go_on, has_feed, is_text_byte}
use Rattle.journal_format.specs.declared.lines.TheConstants.{CHUNK, MOST_BYTES, MOST_LINE}

-- these bytes were read, and `left` further ones may be read
pub record HasRead (start now : Option (List ℕ)) (bytes : List ℕ) (left : ℕ) : Type 0 where
  pub bytes_are : Consumes start now bytes
  pub count : length bytes + left ≡ MOST_BYTES + 1

-- No more of a line is read: everything was read, or it is already too long, or has a byte that no
-- line has.
abbrev pub HasEnded : List ℕ → ℕ → Option (List ℕ) → Type 0
HasEnded rest left now = (left ≡ 0) ⊎
    (IsAtEnd now ⊎ ((MOST_LINE < length rest) ⊎ (can_go_on rest ≡ false)))

-- the first line in these bytes is longer than a line can be
abbrev pub IsTooLong : List ℕ → Type 0
IsTooLong bytes = (MOST_LINE < length bytes) × (has_feed (take MOST_LINE bytes) ≡ false)

-- Before the last read, of at most 4,096 bytes, no line had ended and there was no byte that no
-- line has.
pub record HasNewLine (bytes : List ℕ) : Type 0 where
  pub before : List ℕ
  pub last : List ℕ
  pub whole : bytes ≡ before ++ last
  pub none : has_feed before ≡ false
  pub goes_on : can_go_on before ≡ true
  pub size : length last ≤ CHUNK

-- Of known bytes no more were read than finding this bad line takes. Before the last read, of at
-- most 4,096 bytes, fewer lines had ended, and all bytes were such as lines have.
pub record ReadsUpTo (line : ℕ) (old now : Option (List ℕ)) : Type 0 where
  pub before : List ℕ
  pub last : List ℕ
  pub read : Consumes old now (before ++ last)
  pub few : count_by (λ b. b == 10) before < line
  pub plain : list_all is_text_byte before ≡ true
  pub size : length last ≤ CHUNK
