-- Why a run ended early: what is printed, and the exit status.
use Rattle.std.specs.Prelude.{◌≡◌, ◌++◌, ℕ, List, [], ◌∷◌, codes, Result, Ok, Err}
use Rattle.std.specs.Fmt.{decimal}
use Rattle.text_io.specs.declared.input.ReadFault.{ReadFault}
use Rattle.text_io.specs.declared.input.ReadFault.TheVariants as read
use Rattle.script_text.specs.ScriptFault.{script_fault_text}
use Rattle.script_text.specs.declared.fault.ScriptFault.{ScriptFault}
use Rattle.script_text.specs.declared.fault.ScriptFault.TheVariants as script
use Rattle.script_runner.specs.declared.fault.RunFault.{RunFault}
use Rattle.script_runner.specs.declared.fault.RunFault.TheVariants.{BadCall, Deadlock, Input, Output, NoMemory}

-- one line for each line of the script whose call waits, separated by line feeds
abbrev pub wait_text : ℕ → List ℕ
wait_text line = codes "line " ++ (decimal line ++ codes ": waits for ever")

abbrev pub waits_text : List ℕ → List ℕ
waits_text [] = []
waits_text (line ∷ []) = wait_text line
waits_text (line ∷ lines) = wait_text line ++ (10 ∷ waits_text lines)

-- the text on standard error
abbrev pub fault_text : RunFault → List ℕ
fault_text (BadCall line) = script_fault_text (script.BadCall line)
fault_text Input = codes "input fault"
fault_text Output = codes "output fault"
fault_text NoMemory = codes "no memory"
fault_text (Deadlock lines) = waits_text lines.items

-- the exit status of the program
abbrev pub exit_status : RunFault → ℕ
exit_status (BadCall line) = 2
exit_status Input = 3
exit_status Output = 3
exit_status NoMemory = 4
exit_status (Deadlock lines) = 5

-- why a run ends if the script was not read to its end
abbrev pub of_read_fault : ReadFault → RunFault
of_read_fault read.Failed = Input
of_read_fault read.NoMemory = NoMemory

-- why a run ends if the script was not parsed
abbrev pub of_script_fault : ScriptFault → RunFault
of_script_fault (script.BadCall line) = BadCall line
of_script_fault script.NoMemory = NoMemory

-- a failure after the script was read
abbrev pub IsLate : RunFault → Type 0
IsLate (BadCall line) = ⊥
IsLate Input = ⊥
IsLate Output = Unit {0}
IsLate NoMemory = Unit {0}
IsLate (Deadlock lines) = Unit {0}

-- a failure in a phase before its replies are written
abbrev pub IsUnwritten : RunFault → Type 0
IsUnwritten (BadCall line) = ⊥
IsUnwritten Input = ⊥
IsUnwritten Output = ⊥
IsUnwritten NoMemory = Unit {0}
IsUnwritten (Deadlock lines) = Unit {0}

-- The run of a script in which this line is wrong: it says so, unless a read failed or memory was
-- refused first.
abbrev pub StopsAt : {A : Type 0} → ℕ → Result A RunFault → Type 0
StopsAt line (Err (BadCall k)) = k ≡ line
StopsAt line (Err Input) = Unit {0}
StopsAt line (Err NoMemory) = Unit {0}
StopsAt line (Err Output) = ⊥
StopsAt line (Err (Deadlock lines)) = ⊥
StopsAt line (Ok done) = ⊥
