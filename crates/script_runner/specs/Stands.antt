-- The effect of a phase that deadlocks: a process waits for ever.
use Rattle.std.specs.Prelude.{◌≡◌, ◌≢◌, ◌++◌, ℕ, true, List, [], ◌∷◌, map, Option, None, Some}
use Rattle.std.specs.List.{All, AllZip, flat_map, list_all}
use Rattle.fast_mutex.specs.Items.{Ticket}
use Rattle.mq.specs.Blocked.{is_blocked}
use Rattle.mq_model.specs.Record.{Record}
use Rattle.script_runner.specs.Buffer.{buffer_given}
use Rattle.script_runner.specs.Runs.{Blocks, FindsLength, IsSameProcess, RunsCalls, calls_of}
use Rattle.script_text.specs.Script.{WrittenCall}
use Rattle.script_text.specs.declared.reply.Completion.{Completion}
use Rattle.script_runner.specs.declared.turns.Worked.{Worked}

-- A process made some of these calls, the first ones, and then began the call in this line, in
-- which it waits.
pub record BlocksIn (calls : List WrittenCall) (old new : Ticket Record) (line : ℕ) : Type 0 where
  pub made : List WrittenCall
  pub call : WrittenCall
  pub later : List WrittenCall
  pub are : calls ≡ made ++ call ∷ later
  pub line_is : call.line ≡ line
  pub completions : List Completion
  pub mid : Ticket Record
  pub ran : RunsCalls made completions old mid
  pub blocks : Blocks call.moment call.command (buffer_given call.command) mid new

-- How the calls of a process ended: all were made, or one of them waits, the one in the line.
abbrev pub EndsIn : Option ℕ → List WrittenCall → List Completion → Ticket Record → Ticket Record →
    Type 0
EndsIn None calls completions old new = RunsCalls calls completions old new
EndsIn (Some line) calls completions old new = BlocksIn calls old new line

abbrev pub process_in : Option ℕ → ℕ → List ℕ
process_in None process = []
process_in (Some line) process = process ∷ []

-- the processes that wait
abbrev pub blocked_processes : List (Worked (Ticket Record)) → List ℕ
blocked_processes workers = flat_map (λ worked. process_in worked.blocked worked.process.number)
    workers

abbrev pub line_in : Option ℕ → List ℕ
line_in None = []
line_in (Some line) = line ∷ []

-- the lines of the calls that wait, that of the first process first
abbrev pub blocked_lines : List (Worked (Ticket Record)) → List ℕ
blocked_lines workers = flat_map (λ worked. line_in worked.blocked) workers

-- a process of a phase, whose calls ended in this way
pub record EndsPhase (calls : List WrittenCall) (old : Ticket Record)
    (worked : Worked (Ticket Record)) : Type 0 where
  pub same : IsSameProcess old worked.process
  pub ends : EndsIn worked.blocked (calls_of old.number calls) worked.completions.items
      old worked.process

-- The phase deadlocked. Each process made all its calls, or some first ones and then waits in the
-- next one. `lines` are the lines of those calls, and there is at least one. Then each process
-- acquired the lock once more. All found a journal of the same length, in which every process that
-- waits has an open wait that no entry serves. So none of them calls again.
pub record ComesToAStand (calls : List WrittenCall) (before : List (Ticket Record)) (lines : List ℕ)
    (after : List (Ticket Record)) : Type 0 where
  pub ended : List (Worked (Ticket Record))
  pub each : AllZip (EndsPhase calls) before ended
  pub are : blocked_lines ended ≡ lines
  pub some : lines ≢ []
  pub n : ℕ
  pub met : AllZip (FindsLength n) (map (λ worked. worked.process) ended) after
  pub blocked : All (λ process. list_all (is_blocked process.left) (blocked_processes ended) ≡
      true) after
