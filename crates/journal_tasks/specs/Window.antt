-- The part of a journal that a picture shows.
use Rattle.std.specs.Prelude.{ℕ, ◌≡◌, false, ◌+◌, ◌-◌, min, nat_lt, List, Option, if◌then◌else◌, length}
use Rattle.std.specs.Io.KnownBytes as known
use Rattle.text_io.specs.Output.{AppendsTooLittle}
use Rattle.mq_model.specs.Record.{Past}
use Rattle.journal_format.specs.Fitting.{AllFit}
use Rattle.journal_format.specs.Text.{journal_text}
use Rattle.journal_views.specs.Picture.{picture_text}
use Rattle.journal_views.specs.View.{is_beyond}
use Rattle.journal_tasks.specs.declared.window.Window.{Window}

-- the place after the last one that may be shown, in a journal of this length
abbrev pub end_shown : Window → ℕ → ℕ
end_shown window len = if nat_lt window.to len then window.to + 1 else len

-- the first place that is shown
abbrev pub first_shown : Window → ℕ → ℕ
first_shown window len = min window.from (end_shown window len)

-- how many entries are shown: at most 2,000
abbrev pub count_shown : Window → ℕ → ℕ
count_shown window len = min (end_shown window len - first_shown window len) 2000

-- a picture of the entries in the window, of the journal with this text, was appended to known
-- bytes
pub record Draws (bytes : List ℕ) (window : Window) (old new : Option (List ℕ)) : Type 0 where
  pub past : Past
  pub fits : AllFit past
  pub text : bytes ≡ journal_text past
  pub begins : is_beyond window.from (length past) ≡ false
  pub written : known.Appends old new (picture_text past (first_shown window (length past))
      (count_shown window (length past)))

-- a proper prefix of such a picture was appended to known bytes
pub record DrawsInPart (bytes : List ℕ) (window : Window) (old new : Option (List ℕ)) : Type 0 where
  pub past : Past
  pub fits : AllFit past
  pub text : bytes ≡ journal_text past
  pub begins : is_beyond window.from (length past) ≡ false
  pub written : AppendsTooLittle old new (picture_text past (first_shown window (length past))
      (count_shown window (length past)))
