-- Why a script was not read.
use Rattle.std.specs.Prelude.{◌≡◌, ℕ, ◌++◌, List, codes, Result, Ok, Err}
use Rattle.std.specs.Fmt.{decimal}
use Rattle.script_text.specs.declared.fault.ScriptFault.{ScriptFault}
use Rattle.script_text.specs.declared.fault.ScriptFault.TheVariants.{BadCall, NoMemory}

-- the printed text
abbrev pub script_fault_text : ScriptFault → List ℕ
script_fault_text (BadCall line) = codes "line " ++ (decimal line ++ codes ": bad call")
script_fault_text NoMemory = codes "no memory"

-- reading ended with this error
abbrev pub Fails : {A : Type 0} → ScriptFault → Result A ℕ → Type 0
Fails (BadCall line) read = read ≡ Err line
Fails NoMemory read = Unit {0}

-- what a function returned, seen through `view`, is the result of reading, unless memory was
-- refused
abbrev pub Gives : {A B : Type 0} → (A → B) → Result A ScriptFault → Result B ℕ → Type 0
Gives view (Ok x) read = read ≡ Ok (view x)
Gives view (Err fault) read = Fails fault read
