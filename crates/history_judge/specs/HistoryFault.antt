-- Why a history was not read.
use Rattle.std.specs.Prelude.{◌≡◌, ◌≢◌, ◌⊎◌, ℕ, ◌<◌, ◌+◌, List, ◌++◌, length}
use Rattle.journal_format.specs.Lines.{IsTooLong}
use Rattle.history_judge.specs.Fitting.{AllFit, Fits}
use Rattle.history_judge.specs.Text.{history_text, line_text}
use Rattle.history_judge.specs.declared.line.Called.{Called}

-- The text stops being that of a history in this line: the lines before it are those of calls of
-- processes from 1 to 32, something follows them, and that does not start with the line of such a
-- call.
pub record StopsAt (line : ℕ) (text : List ℕ) : Type 0 where
  pub calls : List Called
  pub rest : List ℕ
  pub fits : AllFit calls
  pub whole : text ≡ history_text calls ++ rest
  pub line_is : line ≡ length calls + 1
  pub some : 0 < length rest
  pub none : (c : Called) (others : List ℕ) → Fits c → rest ≢ line_text c ++ others

-- The text has a line that is too long, and this is the first one: the lines before it are those of
-- calls.
pub record HasLongLine (line : ℕ) (text : List ℕ) : Type 0 where
  pub calls : List Called
  pub rest : List ℕ
  pub fits : AllFit calls
  pub whole : text ≡ history_text calls ++ rest
  pub line_is : line ≡ length calls + 1
  pub long : IsTooLong rest

-- this line of an input is the first that is not the line of such a call, or is too long for one
abbrev pub IsAtFault : ℕ → List ℕ → Type 0
IsAtFault line text = StopsAt line text ⊎ HasLongLine line text
