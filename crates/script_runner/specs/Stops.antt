-- How far a run that ends early has come, and what it has written.
use Rattle.std.specs.Prelude.{◌≡◌, ◌≤◌, ◌<◌, ◌++◌, [], ◌∷◌, ◌⊎◌, ℕ, List, Option, None, length, take}
use Rattle.std.specs.List.{All}
use Rattle.std.specs.Io.KnownBytes as known
use Rattle.fast_mutex.specs.Items.{Grows, LockId, Ticket, tickets_from}
use Rattle.mq.specs.Calls.{author, bounds_in}
use Rattle.mq_model.specs.Legality.{Legal}
use Rattle.mq_model.specs.Record.{Past, Record}
use Rattle.script_text.specs.Script.{WrittenCall, Whole}
use Rattle.script_runner.specs.Runs.{RunsPhase, RunsPhases, last_line}
use Rattle.script_runner.specs.Stands.{ComesToAStand}

-- some phases were run, the first ones, and exactly their replies were appended to known bytes
pub record RunsFront (phases : List (List WrittenCall)) (before : List (Ticket Record))
    (old new : Option (List ℕ)) : Type 0 where
  pub count : ℕ
  pub after : List (Ticket Record)
  pub replies : List ℕ
  pub ran : RunsPhases (take count phases) before after replies
  pub written : known.Appends old new replies

-- a script was run up to the end of a phase, or not begun, and nothing else was written
abbrev pub StopsAfterPhase : Whole → Option (List ℕ) → Option (List ℕ) → Type 0
StopsAfterPhase script old new = (new ≡ old) ⊎ ((system : LockId) × RunsFront script.phases
    (tickets_from system 1 script.processes) old new)

-- a text was appended to known bytes, and a proper prefix of the next text
abbrev pub AppendsInto : Option (List ℕ) → Option (List ℕ) → List ℕ → List ℕ → Type 0
AppendsInto old new text next = (n : ℕ) × (n < length next) × known.Appends old new
    (text ++ take n next)

-- Phases were run, the first ones. The replies of all but the last of these are written, and a
-- prefix of the replies of the last.
pub record StopsInPhase (phases : List (List WrittenCall)) (before : List (Ticket Record))
    (old new : Option (List ℕ)) : Type 0 where
  pub first : List (List WrittenCall)
  pub last : List WrittenCall
  pub later : List (List WrittenCall)
  pub are : phases ≡ first ++ last ∷ later
  pub between : List (Ticket Record)
  pub replies : List ℕ
  pub ran : RunsPhases first before between replies
  pub after : List (Ticket Record)
  pub text : List ℕ
  pub ran_last : RunsPhase last between after text
  pub written : AppendsInto old new replies text

-- All phases were run. Their replies are written, and a prefix of the last line.
pub record StopsInLastLine (phases : List (List WrittenCall)) (before : List (Ticket Record))
    (old new : Option (List ℕ)) : Type 0 where
  pub after : List (Ticket Record)
  pub replies : List ℕ
  pub ran : RunsPhases phases before after replies
  pub written : AppendsInto old new replies last_line

-- a script was run up to a write that failed
pub record StopsInWrite (script : Whole) (old new : Option (List ℕ)) : Type 0 where
  pub system : LockId
  pub stops :
      StopsInPhase script.phases (tickets_from system 1 script.processes) old new
      ⊎ StopsInLastLine script.phases (tickets_from system 1 script.processes) old new

-- Phases were run, the first ones, and their replies are written and nothing else. The next phase
-- deadlocked in the calls of these lines.
pub record StopsBlocked (phases : List (List WrittenCall)) (before : List (Ticket Record))
    (lines : List ℕ) (after : List (Ticket Record)) (old new : Option (List ℕ)) : Type 0 where
  pub first : List (List WrittenCall)
  pub last : List WrittenCall
  pub later : List (List WrittenCall)
  pub are : phases ≡ first ++ last ∷ later
  pub between : List (Ticket Record)
  pub replies : List ℕ
  pub ran : RunsPhases first before between replies
  pub stands : ComesToAStand last between lines after
  pub written : known.Appends old new replies

-- A script was run up to a phase that deadlocked. There is one legal journal, as after a whole run.
pub record StopsInDeadlock (script : Whole) (lines : List ℕ)
    (old new : Option (List ℕ)) : Type 0 where
  pub system : LockId
  pub few : script.processes ≤ 32
  pub unbounded : bounds_in system.fixed ≡ None
  pub processes : List (Ticket Record)
  pub stops : StopsBlocked script.phases (tickets_from system 1 script.processes) lines
      processes old new
  pub journal : Past
  pub legal : Legal journal
  pub authors : All (λ r. (1 ≤ author r) × (author r ≤ script.processes)) journal
  pub grows : All (λ process. Grows author process.number process.left journal []) processes
