-- The state of the processes of a script.
use Rattle.std.specs.Prelude.{ℕ, ◌+◌, ◌==◌, Bool, true, false, not, ◌&&◌, ◌||◌, nat_lt, List, [], ◌∷◌, ◌++◌, length, map, replicate, Option, Some, None, is_some, is_none, if◌then◌else◌, slice_get, slice_set, Vec, zero, suc}
use Rattle.std.specs.Option.{option_map, option_and_then, unwrap_or}
use Rattle.std.specs.declared.alloc.Global.{Global}
use Rattle.mq_model.specs.Record.{Past}
use Rattle.mq_model.specs.Waits.{open_wait}
use Rattle.schedules.specs.Observed.{Observed}
use Rattle.script_orders.specs.Progress.{Progress}
use Rattle.script_orders.specs.Turns.{Turned, after_turn}
use Rattle.script_orders.specs.Waiting.{wait_text}
use Rattle.script_orders.specs.declared.plan.Planned.{Planned}

-- The lines of each process, the number of phases, the bytes of the script, and the journal before
-- it; the current phase, the journal so far, and the state of each process. Process p is at p - 1.
pub record Stage : Type 0 where
  pub programs : List (Vec Planned Global)
  pub phases : ℕ
  pub script : List ℕ
  pub start : Past
  pub phase : ℕ
  pub past : Past
  pub seats : List Progress

-- a process that has begun nothing
abbrev pub fresh : Progress
fresh = record { begun = 0; text = [] }

abbrev pub first_stage : Stage → Stage
first_stage s = record {
  programs = s.programs;
  phases = s.phases;
  script = s.script;
  start = s.start;
  phase = 0;
  past = s.start;
  seats = replicate (length s.programs) fresh;
}

-- the next step of the process at an index, if it can take one
abbrev pub turn_of : Stage → ℕ → Option Turned
turn_of s index =
    option_and_then (λ (program : Vec Planned Global). option_and_then
    (λ (seat : Progress). after_turn s.past s.phase (index + 1) seat program)
    (slice_get s.seats index))
    (slice_get s.programs index)

abbrev pub with_turn : Stage → ℕ → Turned → Stage
with_turn s index turned = record {
  programs = s.programs;
  phases = s.phases;
  script = s.script;
  start = s.start;
  phase = s.phase;
  past = turned.past;
  seats = slice_set s.seats index turned.progress;
}

-- none of the first n processes can take a step
abbrev pub none_can_turn : Stage → ℕ → Bool
none_can_turn s zero = true
none_can_turn s (suc n) = none_can_turn s n && is_none (turn_of s n)

-- one of them waits
abbrev pub one_waits : Past → ℕ → Bool
one_waits past zero = false
one_waits past (suc n) = one_waits past n || is_some (open_wait past (n + 1))

-- No process can take a step: the phase is over, or if a process waits, it deadlocks.
abbrev pub stands_still : Stage → Bool
stands_still s = none_can_turn s (length s.programs)

abbrev pub waits : Stage → Bool
waits s = one_waits s.past (length s.programs)

abbrev pub seats_cleared : List Progress → List Progress
seats_cleared seats = map (λ (seat : Progress). let next : Progress = record {
  begun = seat.begun;
  text = [];
} in next) seats

-- the next phase has begun
abbrev pub in_next_phase : Stage → Stage
in_next_phase s = record {
  programs = s.programs;
  phases = s.phases;
  script = s.script;
  start = s.start;
  phase = s.phase + 1;
  past = s.past;
  seats = seats_cleared s.seats;
}

-- a phase ends when no process can take a step and none waits, if there is a next phase
abbrev pub is_phase_over : Stage → Bool
is_phase_over s = nat_lt (s.phase + 1) s.phases && (stands_still s && not (waits s))

abbrev pub after_phase : Stage → Option Stage
after_phase s = if is_phase_over s then Some (in_next_phase s) else None

-- A step of the process at an index. If the choice is the number of processes, the next phase
-- begins.
abbrev pub next_stage : Stage → ℕ → Option Stage
next_stage s choice = if choice == length s.programs then after_phase s
    else option_map (with_turn s choice) (turn_of s choice)

abbrev pub choice_count : Stage → ℕ
choice_count s = length s.programs + 1

-- the text of the replies of all processes in a phase
abbrev pub replies : List Progress → List ℕ
replies [] = []
replies (seat ∷ seats) = seat.text ++ replies seats

-- the line that the process at an index began last, and 0 if it has begun none
abbrev pub line_of : Vec Planned Global → ℕ → ℕ
line_of program zero = 0
line_of program (suc n) = unwrap_or (option_map (λ (planned : Planned). planned.line)
    (slice_get program.items n)) 0

abbrev pub wait_line_of : Stage → ℕ → ℕ
wait_line_of s index =
    unwrap_or (option_and_then (λ (program : Vec Planned Global). option_map
    (λ (seat : Progress). line_of program seat.begun) (slice_get s.seats index))
    (slice_get s.programs index)) 0

-- the text about the process at an index: if it waits, the line of that call
abbrev pub wait_of : Stage → ℕ → List ℕ
wait_of s index = if is_some (open_wait s.past (index + 1))
    then wait_text s.script (wait_line_of s index) else []

-- the text about the calls in which the first n processes wait
abbrev pub waiting_lines : Stage → ℕ → List ℕ
waiting_lines s zero = []
waiting_lines s (suc n) = waiting_lines s n ++ wait_of s n

-- The outcome when no process can take a step: the phase, whether it deadlocks, and the text.
abbrev pub observed : Stage → Observed
observed s = record {
  stage = s.phase;
  stuck = waits s;
  text = if waits s then waiting_lines s
      (length s.programs) else replies s.seats;
}
