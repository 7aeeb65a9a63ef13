use Rattle.std.proofs.Common.{◌≡◌, ◌≤◌, ◌++◌, length}
use Rattle.journal_format.specs.Fitting.{AllFit}
use Rattle.journal_format.specs.Text.{journal_text}
use Rattle.journal_format.proofs.text.read_lines.Given as goal

-- the text of what was read, and what is left
abbrev pub invariant-lines : goal.invariant-lines
invariant-lines l = record {
  text : journal_text l.initial.journal.records ++ l.text ≡ journal_text l.journal.records ++
      l.rest;
  fits : AllFit l.journal.records;
  count : length l.initial.journal.records ≤ length l.journal.records;
}

abbrev pub decreases-lines : goal.decreases-lines
decreases-lines l = length l.rest
