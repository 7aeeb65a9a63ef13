-- The text of the result of checking a history.
use Rattle.std.specs.Prelude.{ℕ, ◌+◌, ◌-◌, ◌^◌, Bool, min, List, [], ◌++◌, length, Option, None, Some, codes, if◌then◌else◌}
use Rattle.std.specs.Fmt.{decimal}
use Rattle.journal_format.specs.Text.{payload_text}
use Rattle.histories.specs.declared.contradiction.Contradiction.{Contradiction}
use Rattle.histories.specs.declared.contradiction.Contradiction.TheVariants.{Excess, Passed, NotFull}
use Rattle.history_judge.specs.Text.{history_text}
use Rattle.history_judge.specs.Processes.{process_count}
use Rattle.history_judge.specs.declared.line.Called.{Called}
use Rattle.history_judge.specs.declared.judgement.Judgement.{Judgement}
use Rattle.history_judge.specs.declared.judgement.Judgement.TheVariants.{Possible, Impossible, OutOfBudget}

-- the exit status
abbrev pub status_of : Judgement → ℕ
status_of (Possible journal) = 0
status_of (Impossible call front is_shortest found) = 1
status_of OutOfBudget = 5

abbrev pub possible_line : ℕ → ℕ → List ℕ
possible_line calls processes =
    codes "possible: " ++
    (decimal calls ++ (codes " calls, " ++ (decimal processes ++ codes " processes\n")))

abbrev pub shortness : Bool → List ℕ
shortness is_shortest = if is_shortest then [] else codes ", perhaps not the shortest"

-- a send of a message, and when it was made
abbrev pub send_text : ℕ → List ℕ → ℕ → ℕ → List ℕ
send_text prio message from to =
    decimal prio ++ (payload_text message ++ (codes " between " ++
    (decimal from ++ (codes " and " ++ decimal to))))

abbrev pub count_text : ℕ → ℕ → List ℕ
count_text most capacity =
    decimal most ++ (codes " of " ++ (decimal capacity ++ codes " messages"))

-- A message that was received more often than it was sent, or that lay in the queue while a
-- receive passed over it; or a send that found a queue full that was not. Messages are written as
-- in a line of a history.
abbrev pub contradiction_text : Contradiction → List ℕ
contradiction_text (Excess e) =
    codes "; " ++ (decimal e.received ++ (codes " receives, " ++ (decimal e.sent ++
    (codes " sends of " ++ (decimal e.prio ++ payload_text e.message.items)))))
contradiction_text (Passed e) =
    codes "; " ++ (decimal e.prio ++ (payload_text e.message.items ++
    (codes " lay in the queue from " ++
    (decimal e.from ++ (codes " to " ++ decimal e.to)))))
contradiction_text (NotFull e) =
    codes "; a send of " ++ (send_text e.prio e.message.items e.from e.to ++
    (codes " found the queue full with at most " ++ count_text (e.sent - e.received) e.capacity))

abbrev pub reason : Option Contradiction → List ℕ
reason None = []
reason (Some found) = contradiction_text found

abbrev pub impossible_line : ℕ → ℕ → Bool → Option Contradiction → List ℕ
impossible_line line calls is_shortest found =
    codes "impossible: line " ++ (decimal line ++ (codes ", front part of " ++ (decimal calls ++
    (codes " calls" ++ (shortness is_shortest ++ (reason found ++ codes "\n"))))))

abbrev pub undecided_line : ℕ → List ℕ
undecided_line budget =
    codes "undecided: the budget of " ++ (decimal budget ++ codes " steps was used up\n")

-- A line, and after it the journal that explains the history if `with_journal`, or the prefix that
-- is not linearizable. The line of a call is counted from 1. `budget` is the one of the search.
abbrev pub judgement_text : List Called → ℕ → Bool → Judgement → List ℕ
judgement_text calls budget with_journal (Possible journal) =
    possible_line (length calls) (process_count calls) ++
    (if with_journal then journal.items else [])
judgement_text calls budget with_journal (Impossible call front is_shortest found) =
    impossible_line (min (call + 1) (2 ^ 64 - 1)) (length front.items) is_shortest found ++
    history_text front.items
judgement_text calls budget with_journal OutOfBudget = undecided_line budget
