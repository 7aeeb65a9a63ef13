-- The report of the outcomes of a script.
use Rattle.std.specs.Prelude.{ℕ, ◌+◌, ◌==◌, Bool, not, ◌&&◌, List, [], ◌∷◌, ◌++◌, codes, count_by, if◌then◌else◌, zero, suc}
use Rattle.std.specs.Fmt.{decimal}
use Rattle.schedules.specs.declared.outcomes.Witnessed.{Witnessed}

abbrev pub is_outcome_of : ℕ → Witnessed → Bool
is_outcome_of phase found = found.outcome.stage == phase && not found.outcome.stuck

abbrev pub is_deadlock_of : ℕ → Witnessed → Bool
is_deadlock_of phase found = found.outcome.stage == phase && found.outcome.stuck

-- the first line about a phase
abbrev pub head_text : List Witnessed → ℕ → List ℕ
head_text found phase =
    codes "phase "
    ++ (decimal (phase + 1)
    ++ (codes ": outcomes "
    ++ (decimal (count_by (is_outcome_of phase) found)
    ++ (codes ", deadlocks " ++ (decimal (count_by (is_deadlock_of phase) found) ++ 10 ∷ [])))))

-- the line before an outcome or a deadlock
abbrev pub entry_head : Witnessed → ℕ → List ℕ
entry_head found number = (if found.outcome.stuck then codes "deadlock " else codes "outcome ") ++
    (decimal number ++ 10 ∷ [])

abbrev pub entry_text : ℕ → ℕ → Witnessed → List ℕ
entry_text phase number found = if found.outcome.stage == phase
    then entry_head found number ++ found.outcome.text.items else []

-- the outcomes and deadlocks of a phase; `before` is how many come before these
abbrev pub entries_text : ℕ → ℕ → List Witnessed → List ℕ
entries_text phase before [] = []
entries_text phase before (one ∷ found) = entry_text phase (before + 1) one ++ entries_text phase
    (before + 1) found

abbrev pub phase_text : List Witnessed → ℕ → List ℕ
phase_text found phase = head_text found phase ++ entries_text phase 0 found

-- the first n phases
abbrev pub phases_text : List Witnessed → ℕ → List ℕ
phases_text found zero = []
phases_text found (suc n) = phases_text found n ++ phase_text found n

-- the last line; an incomplete search took as many steps as its budget has
abbrev pub end_text : Bool → ℕ → ℕ → List ℕ
end_text complete steps states =
    if complete
    then codes "every order was tried, in " ++
    (decimal steps ++
    (codes " steps, " ++ (decimal states ++ (codes " states kept" ++ 10 ∷ []))))
    else codes "the budget of " ++
    (decimal steps ++ (codes " steps was used up, " ++
    (decimal states ++ (codes " states kept: there may be more" ++ 10 ∷ []))))

abbrev pub report_text : ℕ → List Witnessed → Bool → ℕ → ℕ → List ℕ
report_text phases found complete steps states = phases_text found phases ++
    end_text complete steps states
