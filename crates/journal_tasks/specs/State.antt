-- The state after a prefix of a journal.
use Rattle.std.specs.Prelude.{ℕ, ◌≡◌, ◌<◌, ◌≤◌, List, Option, None, Some, length}
use Rattle.std.specs.Io.KnownBytes as known
use Rattle.std.specs.Option.{unwrap_or}
use Rattle.text_io.specs.Output.{AppendsTooLittle}
use Rattle.mq_model.specs.Legality.{Legal, IsFirstIllegal}
use Rattle.mq_model.specs.Record.{Past, first}
use Rattle.journal_format.specs.Fitting.{AllFit}
use Rattle.journal_format.specs.Text.{journal_text}
use Rattle.journal_views.specs.State.{state}
use Rattle.journal_tasks.specs.declared.state.NoState.{NoState}
use Rattle.journal_tasks.specs.declared.state.NoState.TheVariants.{Beyond, Illegal}
use Rattle.journal_tasks.specs.declared.state.Wanted.{Wanted}

-- the number of entries after which the state is wanted: all, if no number is given
abbrev pub count_wanted : Wanted → Past → ℕ
count_wanted wanted past = unwrap_or wanted.at (length past)

-- the entries after which it is wanted
abbrev pub entries_wanted : Wanted → Past → Past
entries_wanted wanted past = first (count_wanted wanted past) past

-- why there is no state: the journal has fewer entries, or one of them is not legal
abbrev pub LacksState : Wanted → Past → NoState → Type 0
LacksState wanted past (Beyond len) = (len ≡ length past) × (length past < count_wanted wanted past)
LacksState wanted past (Illegal place) = (count_wanted wanted past ≤ length past) ×
    IsFirstIllegal (entries_wanted wanted past) place

-- the text of the state after these entries, which are legal
pub record IsTextOf (wanted : Wanted) (past : Past) (text : List ℕ) : Type 0 where
  pub count : count_wanted wanted past ≤ length past
  pub legal : Legal (entries_wanted wanted past)
  pub state : text ≡ state wanted.form (entries_wanted wanted past)

-- The text of that state was appended to known bytes; or they are unchanged, and there is a reason.
abbrev pub IsShown : Wanted → Past → Option NoState → Option (List ℕ) → Option (List ℕ) → Type 0
IsShown wanted past None old new = (text : List ℕ) × IsTextOf wanted past text ×
    known.Appends old new text
IsShown wanted past (Some why) old new = LacksState wanted past why × (new ≡ old)

-- the same for the journal with this text
pub record Tells (bytes : List ℕ) (wanted : Wanted) (why : Option NoState)
    (old new : Option (List ℕ)) : Type 0 where
  pub past : Past
  pub fits : AllFit past
  pub text : bytes ≡ journal_text past
  pub told : IsShown wanted past why old new

-- a proper prefix of the text of that state was appended to known bytes
pub record TellsInPart (bytes : List ℕ) (wanted : Wanted) (old new : Option (List ℕ)) : Type 0 where
  pub past : Past
  pub fits : AllFit past
  pub text : bytes ≡ journal_text past
  pub whole : List ℕ
  pub is_state : IsTextOf wanted past whole
  pub written : AppendsTooLittle old new whole
