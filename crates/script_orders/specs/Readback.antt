-- What can be read back from the text of a report.
use Rattle.std.specs.Prelude.{◌≡◌, ◌<◌, ◌+◌, ◌^◌, ◌==◌, ℕ, Bool, true, not, ◌&&◌, List, [], ◌∷◌, codes, length, if◌then◌else◌}
use Rattle.std.specs.List.{All, list_any}
use Rattle.schedules.specs.declared.outcomes.Witnessed.{Witnessed}
use Rattle.script_orders.specs.Report.{report_text}

-- an outcome or a deadlock in a report
pub record Reported : Type 0 where
  pub number : ℕ
  pub stuck : Bool
  pub text : List ℕ

-- those of a phase, in order; `before` is how many come before these
abbrev pub reported : ℕ → ℕ → List Witnessed → List Reported
reported phase before [] = []
reported phase before (one ∷ found) =
    if one.outcome.stage == phase
    then record { number = before + 1; stuck = one.outcome.stuck; text = one.outcome.text.items } ∷
    reported phase (before + 1) found
    else reported phase (before + 1) found

-- the first byte of a line that a report has besides texts: deadlock, every, outcome, phase, the
abbrev pub is_mark : ℕ → Bool
is_mark b = list_any (λ mark. b == mark) (codes "deopt")

-- Whole lines, none of which begins as such a line does. `starts` says whether a line starts here.
abbrev pub is_plain : Bool → List ℕ → Bool
is_plain starts [] = starts
is_plain starts (b ∷ bytes) = not (starts && is_mark b) && is_plain (b == 10) bytes

-- the texts of all outcomes are so
abbrev pub ArePlain : List Witnessed → Type 0
ArePlain found = (length found < 2 ^ 63) × All (λ one. is_plain true one.outcome.text.items ≡
    true) found

-- the same number of phases, in each the same outcomes and deadlocks with the same numbers, and
-- both or none are complete
pub record TellsTheSame (m n : ℕ) (found others : List Witnessed)
    (whole entire : Bool) : Type 0 where
  pub phases : n ≡ m
  pub each : (phase : ℕ) → phase < m → reported phase 0 others ≡ reported phase 0 found
  pub complete : entire ≡ whole

-- two reports with the same text tell the same
abbrev pub CanBeReadBack : Type 0
CanBeReadBack =
    (m n : ℕ) (found others : List Witnessed) (whole entire : Bool) (steps other states kept : ℕ) →
    m < 2 ^ 64 → n < 2 ^ 64 → ArePlain found → ArePlain others →
    report_text m found whole steps states ≡ report_text n others entire other kept →
    TellsTheSame m n found others whole entire
