-- What is written when a journal is viewed.
use Rattle.std.specs.Prelude.{ℕ, ◌≡◌, ◌+◌, ◌-◌, ◌&&◌, ◌⊎◌, min, nat_le, nat_lt, Bool, true, false, IsTrue, List, Option, codes, if◌then◌else◌, length}
use Rattle.std.specs.Io.KnownBytes as known
use Rattle.text_io.specs.Output.{AppendsTooLittle}
use Rattle.mq_model.specs.Record.{Past, first}
use Rattle.mq_model.specs.Legality.{Legal}
use Rattle.journal_format.specs.Fitting.{AllFit}
use Rattle.journal_format.specs.Text.{journal_text}
use Rattle.journal_views.specs.State.{state}
use Rattle.journal_views.specs.declared.form.Form.TheVariants.{Json}
use Rattle.journal_views.specs.Page.{page_text}

-- a part of a journal of this length from this place on begins behind the last entry
abbrev pub is_beyond : ℕ → ℕ → Bool
is_beyond from len = nat_lt 0 from && nat_le len from

-- the place after the last one up to `to`, in a journal of this length
abbrev pub end_viewed : ℕ → ℕ → ℕ
end_viewed to len = if nat_lt to len then to + 1 else len

-- the first place from `from` to `to`, both included
abbrev pub first_viewed : ℕ → ℕ → ℕ → ℕ
first_viewed from to len = min from (end_viewed to len)

-- the number of entries from `from` to `to`, both included
abbrev pub count_viewed : ℕ → ℕ → ℕ → ℕ
count_viewed from to len = end_viewed to len - first_viewed from to len

-- the line of the state after these records, or the line `null` if they are not legal
abbrev pub IsStateLine : Past → List ℕ → Type 0
IsStateLine past line = (Legal past × (line ≡ state Json past)) ⊎
    ((Legal past → ⊥) × (line ≡ codes "null\n"))

-- the page of these entries of a journal, with the line of the state before them, between the head
-- and the tail of a template
abbrev pub page_within : List ℕ → List ℕ → List ℕ → ℕ → ℕ → Past → List ℕ
page_within head tail before from to past =
    page_text head tail before past (first_viewed from to (length past))
    (count_viewed from to (length past))

-- the page of these entries, of the journal with this text, was appended to known bytes
pub record Views (bytes : List ℕ) (from to : ℕ) (head tail : List ℕ)
    (old new : Option (List ℕ)) : Type 0 where
  pub past : Past
  pub fits : AllFit past
  pub text : bytes ≡ journal_text past
  pub begins : is_beyond from (length past) ≡ false
  pub before : List ℕ
  pub state : IsStateLine (first (first_viewed from to (length past)) past) before
  pub written : known.Appends old new (page_within head tail before from to past)

-- a proper prefix of such a page was appended to known bytes
pub record ViewsInPart (bytes : List ℕ) (from to : ℕ) (head tail : List ℕ)
    (old new : Option (List ℕ)) : Type 0 where
  pub past : Past
  pub fits : AllFit past
  pub text : bytes ≡ journal_text past
  pub begins : is_beyond from (length past) ≡ false
  pub before : List ℕ
  pub state : IsStateLine (first (first_viewed from to (length past)) past) before
  pub written : AppendsTooLittle old new (page_within head tail before from to past)

-- the page of these entries has more than 25,000,000 bytes
pub record HasLongPage (past : Past) (from to : ℕ) (head tail : List ℕ) : Type 0 where
  pub before : List ℕ
  pub state : IsStateLine (first (first_viewed from to (length past)) past) before
  pub long : IsTrue (nat_lt 25000000 (length (page_within head tail before from to past)))

-- These are more than a million entries of the journal with this text, or their page is too long.
pub record IsTooLong (bytes : List ℕ) (from to : ℕ) (head tail : List ℕ) : Type 0 where
  pub past : Past
  pub fits : AllFit past
  pub text : bytes ≡ journal_text past
  pub begins : is_beyond from (length past) ≡ false
  pub much : IsTrue (nat_lt 1000000 (count_viewed from to (length past))) ⊎
      HasLongPage past from to head tail

-- the journal with this text has this many entries, and a part of it from here begins behind them
pub record IsBeyond (bytes : List ℕ) (from len : ℕ) : Type 0 where
  pub past : Past
  pub fits : AllFit past
  pub text : bytes ≡ journal_text past
  pub count : len ≡ length past
  pub behind : is_beyond from len ≡ true
