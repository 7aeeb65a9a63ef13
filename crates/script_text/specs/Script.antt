-- What the bytes of a script mean.
use Rattle.std.specs.Prelude.{ℕ, pos, Bool, true, false, ◌&&◌, ◌==◌, ◌+◌, nat_le, List, [], ◌∷◌, length, map, slice_index, Option, None, Some, Result, Ok, Err, if◌then◌else◌, codes}
use Rattle.std.specs.Option.{option_map}
use Rattle.std.specs.Str.{bytes_eq}
use denote.Ref.{Bor}
use Rattle.std.specs.declared.vec.Vec.{Vec}
use Rattle.std.specs.declared.alloc.Global.{Global}
use Rattle.text_io.specs.Words.{Word, words_of, count_written, ◌>>=◌}
use Rattle.mq_model.specs.Deadlines.{is_moment}
use Rattle.mq_model.specs.declared.entries.Deadline.{Deadline}
use Rattle.script_text.specs.Grammar.{command_written, deadline_written, said}
use Rattle.script_text.specs.declared.command.Command.{Command}
use Rattle.script_text.specs.declared.line.ScriptCall.{ScriptCall}
use Rattle.script_text.specs.declared.line.Line.{Line}
use Rattle.script_text.specs.declared.line.Line.TheVariants.{Skipped, Processes, PhaseEnd, Clock, Call}
use Rattle.script_text.specs.declared.line.PhaseTime.{PhaseTime}
use Rattle.script_text.specs.declared.script.Place.{Place}
use Rattle.script_text.specs.declared.script.Script.{Script}

-- a line without words, or one whose first word begins with '#'
abbrev pub is_skipped : List Word → Bool
is_skipped [] = true
is_skipped (word ∷ words) = slice_index word 0 == 35

-- the one word is `--`
abbrev pub is_phase_end : List Word → Bool
is_phase_end (word ∷ []) = bytes_eq word (codes "--")
is_phase_end words = false

-- `processes N`
abbrev pub processes_written : List Word → Option ℕ
processes_written (word ∷ count ∷ []) = if bytes_eq word (codes "processes")
    then count_written 32 count else None
processes_written words = None

-- a line whose first word is `clock`
abbrev pub is_clock : List Word → Bool
is_clock [] = false
is_clock (word ∷ words) = bytes_eq word (codes "clock")

-- a time: the nanoseconds are fewer than those of a second
abbrev pub moment_written : Word → Word → Option Deadline
moment_written sec nsec = do
  moment ← deadline_written sec nsec
  if is_moment moment then Some moment else None

-- `clock SEC NSEC`
abbrev pub clock_written : List Word → Option Deadline
clock_written (word ∷ sec ∷ nsec ∷ []) = moment_written sec nsec
clock_written words = None

-- A call line: the process that makes the call, the number of the line, the call, and the time that
-- the clocks of its phase return.
pub record WrittenCall : Type 0 where
  pub process : ℕ
  pub line : ℕ
  pub command : Command Word
  pub moment : Deadline

-- the call that the words of a line mean, for this line number, in a phase with this time, with
-- this number of processes
abbrev pub call_line_written : ℕ → ℕ → Deadline → List Word → Option WrittenCall
call_line_written processes number moment [] = None
call_line_written processes number moment (process ∷ words) = do
  process ← count_written processes process
  command ← command_written words
  Some (record { process = process; line = number; command = command; moment = moment })

-- What the words of a line mean. The first line that is not skipped has the number of processes. No
-- clock line may follow a call of its phase.
abbrev pub line_written : Option ℕ → ℕ → PhaseTime → List Word → Option (Line WrittenCall)
line_written None number time words = if is_skipped words then Some Skipped
    else option_map Processes (processes_written words)
line_written (Some processes) number time words =
    if is_skipped words then Some Skipped
    else (if is_phase_end words then Some PhaseEnd
    else (if is_clock words then (if time.begun then None else option_map Clock
    (clock_written words))
    else option_map Call (call_line_written processes number time.moment words)))

-- the number of processes after a line, if it is known by then
abbrev pub processes_behind : Line WrittenCall → Option ℕ → Option ℕ
processes_behind (Processes count) before = Some count
processes_behind line before = before

abbrev pub calls_of : Line WrittenCall → ℕ
calls_of (Call call) = 1
calls_of line = 0

-- The time of the phase after a line. A clock line sets it, and later phases keep it.
abbrev pub time_behind : Line WrittenCall → PhaseTime → PhaseTime
time_behind (Clock moment) time = record { moment = moment; begun = time.begun }
time_behind (Call call) time = record { moment = time.moment; begun = true }
time_behind PhaseEnd time = record { moment = time.moment; begun = false }
time_behind line time = time

-- after a line: the numbers of lines, bytes and call lines that were read, and the time of the
-- phase
abbrev pub place_behind : Place → List ℕ → Line WrittenCall → Place
place_behind at bytes line = record {
  lines = at.lines + 1;
  bytes = at.bytes + length bytes;
  calls = at.calls + calls_of line;
  time = time_behind line at.time;
}

-- the limits of a script
abbrev pub is_within_limits : Place → Bool
is_within_limits at = nat_le at.bytes 1048576 && nat_le at.calls 1000

-- what the bytes of a line mean, and the position after it, which is within the limits
abbrev pub line_read : Option ℕ → Place → List ℕ → Option (Line WrittenCall × Place)
line_read processes at bytes = do
  line ← line_written processes (at.lines + 1) at.time (words_of bytes)
  if is_within_limits (place_behind at bytes line) then Some (line, place_behind at bytes line)
      else None

-- a script, with the calls of its first phase and of its later ones
pub record Written : Type 0 where
  pub processes : ℕ
  pub first : List WrittenCall
  pub later : List (List WrittenCall)

-- the script of a line and the lines after it, which mean this script
abbrev pub with_line : Line WrittenCall → Written → Written
with_line Skipped script = script
with_line (Processes count) script = script
with_line (Clock moment) script = script
with_line PhaseEnd script = record {
  processes = script.processes;
  first = [];
  later = script.first ∷ script.later;
}
with_line (Call call) script = record {
  processes = script.processes;
  first = call ∷ script.first;
  later = script.later;
}

abbrev pub result_map : {A B : Type 0} → (A → B) → Result A ℕ → Result B ℕ
result_map f (Ok x) = Ok (f x)
result_map f (Err line) = Err line

-- f of the value; if there is none, the line is wrong
abbrev pub or_fault : {A B : Type 0} → Option A → ℕ → (A → Result B ℕ) → Result B ℕ
or_fault None line f = Err line
or_fault (Some x) line f = f x

-- The script that lines mean, or the first wrong line. If no line has the number of processes, that
-- is the one after the last.
abbrev pub script_read : Option ℕ → Place → List (List ℕ) → Result Written ℕ
script_read processes at [] = or_fault processes (at.lines + 1)
    (λ count. Ok (record { processes = count; first = []; later = [] }))
script_read processes at (bytes ∷ rest) =
    or_fault (line_read processes at bytes) (at.lines + 1)
    (λ read. result_map (with_line read.0)
    (script_read (processes_behind read.0 processes) read.1 rest))

-- a byte before the first line
abbrev pub onto_first_line : ℕ → List (List ℕ) → List (List ℕ)
onto_first_line b [] = (b ∷ []) ∷ []
onto_first_line b (line ∷ lines) = (b ∷ line) ∷ lines

-- The lines of bytes, each with its line feed. The last may lack it.
abbrev pub lines_of : List ℕ → List (List ℕ)
lines_of [] = []
lines_of (b ∷ bs) = if b == 10 then (b ∷ []) ∷ lines_of bs else onto_first_line b (lines_of bs)

-- the first phase has the time (0, 0), unless a clock line sets another
abbrev pub start : Place
start = record {
  lines = 0;
  bytes = 0;
  calls = 0;
  time = record { moment = record { sec = pos 0; nsec = pos 0 }; begun = false };
}

-- a script: the number of its processes, and the calls of its phases
pub record Whole : Type 0 where
  pub processes : ℕ
  pub phases : List (List WrittenCall)

abbrev pub whole_of : Written → Whole
whole_of script = record { processes = script.processes; phases = script.first ∷ script.later }

-- the script that bytes mean, or the first wrong line
abbrev pub script_written : List ℕ → Result Whole ℕ
script_written text = result_map whole_of (script_read None start (lines_of text))

-- calls, lines and phases of the program, without the positions of their bytes
abbrev pub said_call : ScriptCall (Bor Word) → WrittenCall
said_call call = record {
  process = call.process;
  line = call.line;
  command = said call.command;
  moment = call.clock.moment;
}

abbrev pub said_line : Line (ScriptCall (Bor Word)) → Line WrittenCall
said_line Skipped = Skipped
said_line (Processes count) = Processes count
said_line PhaseEnd = PhaseEnd
said_line (Clock moment) = Clock moment
said_line (Call call) = Call (said_call call)

abbrev pub said_calls : List (ScriptCall (Bor Word)) → List WrittenCall
said_calls calls = map said_call calls

abbrev pub said_phases : List (Vec (ScriptCall (Bor Word)) Global) → List (List WrittenCall)
said_phases phases = map (λ phase. said_calls phase.items) phases

abbrev pub said_script : Script → Whole
said_script script = record {
  processes = script.processes;
  phases = said_phases script.phases.items;
}
