-- The line that an error names.
use Rattle.std.proofs.Common.{◌≡◌, ℕ, ap}
use Rattle.journal_format.specs.declared.fault.JournalFault.{JournalFault}
use Rattle.journal_format.specs.declared.fault.JournalFault.TheVariants as journal
use Rattle.journal_tasks.specs.LogFault.{of_journal_fault}
use Rattle.journal_tasks.specs.declared.fault.LogFault.{LogFault}
use Rattle.journal_tasks.specs.declared.fault.LogFault.TheVariants.{BadLine}

line_is : (n line : ℕ) → ◌≡◌ {A = LogFault} (BadLine line) (BadLine n) → n ≡ line
line_is n line same = cc

pub named_line : (fault : JournalFault) (line : ℕ) → BadLine line ≡ of_journal_fault fault →
    fault ≡ journal.BadLine line
named_line (journal.BadLine n) line is = ap (λ k. journal.BadLine k) (line_is n line is)
named_line journal.Input line is = absurd (cc)
named_line journal.NoMemory line is = absurd (cc)
