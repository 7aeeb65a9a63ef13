-- A short journal that replaces a long one.
use Rattle.std.specs.Prelude.{ℕ, ◌≡◌, List, Option, Some, None}
use Rattle.std.specs.Io.KnownBytes as known
use Rattle.text_io.specs.Output.{AppendsTooLittle}
use Rattle.mq_model.specs.Legality.{Legal, IsFirstIllegal}
use Rattle.mq_model.specs.Record.{Past}
use Rattle.mq_equivalence.specs.Equivalence.{Equivalent}
use Rattle.journal_format.specs.Fitting.{AllFit}
use Rattle.journal_format.specs.Text.{journal_text}
use Rattle.journal_tasks.specs.declared.compact.NoShort.{NoShort}
use Rattle.journal_tasks.specs.declared.compact.NoShort.TheVariants.{Illegal, Served, Unexpected}

-- why there is no short journal
abbrev pub Explains : Past → NoShort → Type 0
Explains past (Illegal place) = IsFirstIllegal past place
Explains past Served = Legal past
Explains past Unexpected = Legal past

-- The text of a journal that is equivalent to this one was appended to known bytes; or they are
-- unchanged, and there is a reason.
abbrev pub IsWritten : Past → Option NoShort → Option (List ℕ) → Option (List ℕ) → Type 0
IsWritten past None old new =
    (short : Past) × Equivalent past short × known.Appends old new (journal_text short)
IsWritten past (Some why) old new = Explains past why × (new ≡ old)

-- the same for the journal with this text
pub record Compacts (bytes : List ℕ) (why : Option NoShort)
    (old new : Option (List ℕ)) : Type 0 where
  pub past : Past
  pub fits : AllFit past
  pub text : bytes ≡ journal_text past
  pub written : IsWritten past why old new

-- a proper prefix of the text of a legal journal was appended to known bytes
pub record CompactsInPart (old new : Option (List ℕ)) : Type 0 where
  pub short : Past
  pub legal : Legal short
  pub written : AppendsTooLittle old new (journal_text short)
