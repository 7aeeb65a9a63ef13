-- What is written when a script is run for its journal.
use Rattle.std.specs.Prelude.{ℕ, List, Option}
use Rattle.std.specs.Io.KnownBytes as known
use Rattle.text_io.specs.Output.{AppendsTooLittle}
use Rattle.mq_model.specs.Legality.{Legal}
use Rattle.mq_model.specs.Record.{Past}
use Rattle.script_text.specs.Script.{Whole}
use Rattle.script_runner.specs.Notes.{RunsServed}
use Rattle.script_runner.specs.declared.noted.Noted.{Noted}
use Rattle.journal_format.specs.Fitting.{AllFit}
use Rattle.journal_format.specs.Text.{journal_text}

-- the text of a legal journal was appended to known bytes
pub record IsLogged (old new : Option (List ℕ)) : Type 0 where
  pub journal : Past
  pub legal : Legal journal
  pub fits : AllFit journal
  pub written : known.Appends old new (journal_text journal)

-- The script was run whole, no call failed with `NoMemory`, and the text of its journal was
-- appended to known bytes.
pub record Records (script : Whole) (old new : Option (List ℕ)) : Type 0 where
  pub journal : Past
  pub noted : List Noted
  pub ran : RunsServed script noted journal
  pub written : known.Appends old new (journal_text journal)

-- a proper prefix of the text of a legal journal was appended to known bytes
pub record IsLoggedInPart (old new : Option (List ℕ)) : Type 0 where
  pub journal : Past
  pub legal : Legal journal
  pub fits : AllFit journal
  pub written : AppendsTooLittle old new (journal_text journal)

-- The script was run whole, no call failed with `NoMemory`, and a proper prefix of the text of its
-- journal was appended to known bytes.
pub record RecordsInPart (script : Whole) (old new : Option (List ℕ)) : Type 0 where
  pub journal : Past
  pub noted : List Noted
  pub ran : RunsServed script noted journal
  pub written : AppendsTooLittle old new (journal_text journal)
