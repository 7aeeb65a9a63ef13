-- Why a task on a journal failed: what is printed, and the exit status.
use Rattle.std.specs.Prelude.{ℕ, List, ◌++◌, codes}
use Rattle.std.specs.Fmt.{decimal}
use Rattle.journal_format.specs.JournalFault.{journal_fault_text}
use Rattle.journal_format.specs.declared.fault.JournalFault.{JournalFault}
use Rattle.journal_format.specs.declared.fault.JournalFault.TheVariants as journal
use Rattle.history_judge.specs.WellFormed.{ill_formed_text}
use Rattle.journal_tasks.specs.declared.fault.LogFault.{LogFault}
use Rattle.journal_tasks.specs.declared.fault.LogFault.TheVariants.{BadLine, IllFormed, Input, Output, NoMemory}

-- the text on standard error
abbrev pub fault_text : LogFault → List ℕ
fault_text (BadLine line) = journal_fault_text (journal.BadLine line)
fault_text (IllFormed line why) = codes "line " ++
    (decimal line ++ (codes ": " ++ ill_formed_text why))
fault_text Input = codes "input fault"
fault_text Output = codes "output fault"
fault_text NoMemory = codes "no memory"

-- the exit status of the program
abbrev pub exit_status : LogFault → ℕ
exit_status (BadLine line) = 2
exit_status (IllFormed line why) = 2
exit_status Input = 3
exit_status Output = 3
exit_status NoMemory = 4

abbrev pub of_journal_fault : JournalFault → LogFault
of_journal_fault (journal.BadLine line) = BadLine line
of_journal_fault journal.Input = Input
of_journal_fault journal.NoMemory = NoMemory
