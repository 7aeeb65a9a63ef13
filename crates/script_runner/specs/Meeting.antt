-- The end of a phase: each process has acquired the lock once more.
use Rattle.std.specs.Prelude.{◌≡◌, ℕ, true, List, []}
use Rattle.std.specs.List.{AllZip, list_all}
use Rattle.fast_mutex.specs.Items.{Ticket}
use Rattle.mq.specs.Blocked.{is_blocked}
use Rattle.mq.specs.Calls.{Calls}
use Rattle.mq_model.specs.Record.{Record}
use Rattle.script_runner.specs.Runs.{FindsLength, RunsPhase}
use Rattle.script_text.specs.Script.{WrittenCall}

-- each process acquired the lock and left no record
abbrev pub AllLook : List (Ticket Record) → List (Ticket Record) → Type 0
AllLook old new = AllZip (λ before after. Calls before after []) old new

-- all processes found a journal of the same length
pub record Meet (old new : List (Ticket Record)) : Type 0 where
  pub n : ℕ
  pub found : AllZip (FindsLength n) old new

-- The process acquired the lock once more and found a journal of n entries, in which each of these
-- processes is blocked.
pub record FindsBlocked (blocked : List ℕ) (n : ℕ) (old new : Ticket Record) : Type 0 where
  pub length : FindsLength n old new
  pub are : list_all (is_blocked new.left) blocked ≡ true

-- all processes found a journal of the same length, in which each of these processes is blocked
pub record MeetBlocked (blocked : List ℕ) (old new : List (Ticket Record)) : Type 0 where
  pub n : ℕ
  pub found : AllZip (FindsBlocked blocked n) old new

-- a phase was run, and then all processes found a journal of the same length
pub record RunsAndMeets (calls : List WrittenCall) (before after : List (Ticket Record))
    (text : List ℕ) : Type 0 where
  pub ended : List (Ticket Record)
  pub ran : RunsPhase calls before ended text
  pub met : Meet ended after
