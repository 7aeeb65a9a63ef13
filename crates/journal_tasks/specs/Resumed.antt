-- What is written when a script is run after a journal.
use Rattle.std.specs.Prelude.{ℕ, ◌≡◌, List, Option, None, Some}
use Rattle.std.specs.Io.KnownBytes as known
use Rattle.text_io.specs.Output.{AppendsTooLittle}
use Rattle.mq_model.specs.Record.{Past}
use Rattle.script_text.specs.Script.{Whole}
use Rattle.script_runner.specs.Notes.{RunsServedAfter}
use Rattle.script_runner.specs.declared.noted.Noted.{Noted}
use Rattle.journal_format.specs.Text.{journal_text}
use Rattle.journal_tasks.specs.Start.{IsNoStart}
use Rattle.journal_tasks.specs.declared.start.NoStart.{NoStart}

-- The script was run whole after the calls of a journal, no call failed with `NoMemory`, and the
-- text of the journal of both was appended to known bytes.
pub record RecordsAfter (past : Past) (script : Whole) (old new : Option (List ℕ)) : Type 0 where
  pub journal : Past
  pub noted : List Noted
  pub ran : RunsServedAfter past script noted journal
  pub written : known.Appends old new (journal_text journal)

-- That was written; or nothing was, and there is a reason why the script cannot continue from the
-- journal.
abbrev pub Resumes : Past → Whole → Option NoStart → Option (List ℕ) → Option (List ℕ) → Type 0
Resumes past script None old new = RecordsAfter past script old new
Resumes past script (Some why) old new = IsNoStart past script.processes why × (new ≡ old)

-- the same, but a proper prefix of the text was appended
pub record ResumesInPart (past : Past) (script : Whole) (old new : Option (List ℕ)) : Type 0 where
  pub journal : Past
  pub noted : List Noted
  pub ran : RunsServedAfter past script noted journal
  pub written : AppendsTooLittle old new (journal_text journal)
