-- The result of checking a concurrent history.
use Rattle.std.specs.Prelude.{◌≡◌, ℕ, ◌+◌, ◌-◌, ◌*◌, ◌^◌, Bool, List, Option, None, Some, length, min}
use Rattle.std.specs.Io.KnownBytes as known
use Rattle.text_io.specs.Output.{AppendsTooLittle}
use Rattle.history_judge.specs.Fitting.{AllFit}
use Rattle.history_judge.specs.Text.{history_text}
use Rattle.history_judge.specs.Said.{judgement_text, status_of}
use Rattle.history_judge.specs.Verdicts.{IsJudgement}
use Rattle.history_judge.specs.WellFormed.{IsFirstFault, IsWellFormed}
use Rattle.history_judge.specs.declared.well_formed.IllFormed.{IllFormed}
use Rattle.history_judge.specs.declared.line.Called.{Called}
use Rattle.history_judge.specs.declared.judgement.Judgement.{Judgement}

-- the maximum number of steps for this number of calls: the given one, or five million and ten for
-- each call, if a u64 has it
abbrev pub budget_for : Option ℕ → ℕ → ℕ
budget_for (Some steps) calls = steps
budget_for None calls = min (5000000 + 10 * calls) (2 ^ 64 - 1)

-- The bytes are the text of a well-formed history. Its calls are of processes from 1 to 32 and have
-- numbers that fit. This is the result of checking it within this budget.
pub record IsJudged (budget : Option ℕ) (bytes : List ℕ) (calls : List Called)
    (judgement : Judgement) : Type 0 where
  pub text : bytes ≡ history_text calls
  pub fits : AllFit calls
  pub formed : IsWellFormed calls
  pub judges : IsJudgement (budget_for budget (length calls)) calls judgement

-- The status is that of the result of checking the history, whose text was appended to known bytes.
pub record JudgesHistory (budget : Option ℕ) (bytes : List ℕ) (with_journal : Bool) (status : ℕ)
    (old new : Option (List ℕ)) : Type 0 where
  pub calls : List Called
  pub judgement : Judgement
  pub judged : IsJudged budget bytes calls judgement
  pub says : status ≡ status_of judgement
  pub written : known.Appends old new (judgement_text calls (budget_for budget (length calls))
      with_journal judgement)

-- a proper prefix of the text of the result was appended to known bytes
pub record StopsInJudgement (budget : Option ℕ) (bytes : List ℕ) (with_journal : Bool)
    (old new : Option (List ℕ)) : Type 0 where
  pub calls : List Called
  pub judgement : Judgement
  pub judged : IsJudged budget bytes calls judgement
  pub written : AppendsTooLittle old new (judgement_text calls (budget_for budget (length calls))
      with_journal judgement)

-- The bytes are the text of an ill-formed history. The call in this line is the first that makes it
-- so, and this is why.
pub record IsIllFormed (line : ℕ) (why : IllFormed) (bytes : List ℕ) : Type 0 where
  pub calls : List Called
  pub text : bytes ≡ history_text calls
  pub fits : AllFit calls
  pub first : IsFirstFault calls line why
