-- Systems that start with a journal.
use Rattle.std.specs.Prelude.{ℕ, ◌≡◌, ◌<◌, ◌+◌, ◌⊎◌, true, false, List, length, IfSome, Option}
use Rattle.mq_model.specs.Record.{Past, record_at}
use Rattle.mq_model.specs.Legality.{IsFirstIllegal}
use Rattle.mq_model.specs.declared.bounds.Bounds.{Bounds}
use Rattle.mq_state.specs.Replays.{is_too_long}
use Rattle.journal_format.specs.Fitting.{AllFit}
use Rattle.journal_format.specs.JournalFault.{StopsAt}
use Rattle.journal_format.specs.Text.{journal_text}
use Rattle.c_handles.specs.declared.handle.Handle.{Handle}
use Rattle.c_handles.specs.Systems.{Fills, HasNoPlace}

-- the text is that of this journal, and determines it
pub record IsTextOf (past : Past) (text : List ℕ) : Type 0 where
  pub fits : AllFit past
  pub text_is : text ≡ journal_text past

-- the line, counted from 1, is that of the first entry that is not legal
pub record IsIllegalAt (past : Past) (line : ℕ) : Type 0 where
  pub place : ℕ
  pub line_is : line ≡ place + 1
  pub illegal : IsFirstIllegal past place

-- the line, counted from 1, is that of an entry of a process above n
pub record IsForeignAt (n : ℕ) (past : Past) (line : ℕ) : Type 0 where
  pub place : ℕ
  pub line_is : line ≡ place + 1
  pub there : place < length past
  pub foreign : IfSome (record_at past place) (λ r. n < r.entry.process)

-- No system of n processes can continue from this journal: an entry is not legal, 30, or is of a
-- process above n, 31.
abbrev pub IsNoStart : ℕ → Past → ℕ → ℕ → Type 0
IsNoStart n past line code = ((code ≡ 30) × IsIllegalAt past line) ⊎
    ((code ≡ 31) × IsForeignAt n past line)

-- the same for the journal of a text
pub record TextIsNoStart (n : ℕ) (text : List ℕ) (line code : ℕ) : Type 0 where
  pub past : Past
  pub of_text : IsTextOf past text
  pub no_start : IsNoStart n past line code

-- the journal with this text, with the entries that end its open waits, exceeds the bounds
pub record TextIsTooLong (bounds : Option Bounds) (text : List ℕ) : Type 0 where
  pub past : Past
  pub of_text : IsTextOf past text
  pub too_long : is_too_long bounds past ≡ true

-- Why no system with these bounds can continue from this text in these handles, with the line
-- number before and after: memory was refused, 11, the journal is too long for the bounds, 13, a
-- line is not that of an entry, 29, or another reason.
abbrev pub IsRefused : Option Bounds → List ℕ → List Handle → ℕ → ℕ → ℕ → Type 0
IsRefused bounds text handles line after code =
    (HasNoPlace handles code × (after ≡ line)) ⊎ ((code ≡ 11) × (after ≡ line))
    ⊎ ((code ≡ 13) × (after ≡ line) × TextIsTooLong bounds text) ⊎
    ((code ≡ 29) × StopsAt after text)
    ⊎ TextIsNoStart (length handles) text after code

-- A system with these bounds was made that starts with a journal. `begins` relates that journal to
-- the one whose text was given, which is not too long for the bounds.
pub record GoesOn (begins : Past → Past → Type 0) (bounds : Option Bounds) (text : List ℕ)
    (old new : List Handle) (code : ℕ) : Type 0 where
  pub written : Past
  pub of_text : IsTextOf written text
  pub within : is_too_long bounds written ≡ false
  pub past : Past
  pub begun : begins written past
  pub fills : Fills bounds true past old new code

-- making a system in this way, with the line number before and after
abbrev pub Resumes : (Past → Past → Type 0) → Option Bounds → List ℕ → List Handle → List Handle →
    ℕ → ℕ → ℕ → Type 0
Resumes begins bounds text old new line after code =
    (GoesOn begins bounds text old new code × (after ≡ line)) ⊎
    (IsRefused bounds text old line after code × (new ≡ old))
