-- Why a journal was not read.
use Rattle.std.specs.Prelude.{ℕ, ◌≡◌, ◌≢◌, ◌⊎◌, ◌<◌, ◌+◌, List, ◌++◌, length, codes}
use Rattle.std.specs.Fmt.{decimal}
use Rattle.mq_model.specs.Record.{Record, Past}
use Rattle.journal_format.specs.Fitting.{AllFit, Fits}
use Rattle.journal_format.specs.Lines.{IsTooLong}
use Rattle.journal_format.specs.Text.{journal_text, line_text}
use Rattle.journal_format.specs.declared.fault.JournalFault.{JournalFault}
use Rattle.journal_format.specs.declared.fault.JournalFault.TheVariants.{BadLine, Input, NoMemory}

-- the printed text
abbrev pub journal_fault_text : JournalFault → List ℕ
journal_fault_text (BadLine line) = codes "line " ++ (decimal line ++ codes ": no entry")
journal_fault_text Input = codes "a read failed"
journal_fault_text NoMemory = codes "no memory"

-- this is not the line of a record at this place
abbrev pub IsNoLine : ℕ → List ℕ → Type 0
IsNoLine place line = (r : Record) → Fits r → line ≢ line_text place r

-- The text stops being that of a journal in this line: the lines before it are the text of a
-- journal, something follows them, and that does not start with the line of a record at the next
-- place.
pub record StopsAt (line : ℕ) (text : List ℕ) : Type 0 where
  pub past : Past
  pub rest : List ℕ
  pub fits : AllFit past
  pub whole : text ≡ journal_text past ++ rest
  pub line_is : line ≡ length past + 1
  pub some : 0 < length rest
  pub none : (r : Record) (others : List ℕ) → Fits r → rest ≢ line_text (length past) r ++ others

-- The text has a line that is too long, and this is the first one: the lines before it are the text
-- of a journal.
pub record HasLongLine (line : ℕ) (text : List ℕ) : Type 0 where
  pub past : Past
  pub rest : List ℕ
  pub fits : AllFit past
  pub whole : text ≡ journal_text past ++ rest
  pub line_is : line ≡ length past + 1
  pub long : IsTooLong rest

-- this line of an input is the first that is not the line of an entry at its place, or is too long
-- for one
abbrev pub IsAtFault : ℕ → List ℕ → Type 0
IsAtFault line text = StopsAt line text ⊎ HasLongLine line text
