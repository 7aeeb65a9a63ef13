use Rattle.std.proofs.Common.{◌≡◌, ◌≤◌, ◌++◌, length}
use Rattle.history_judge.specs.Fitting.{AllFit}
use Rattle.history_judge.specs.Text.{history_text}
use Rattle.history_judge.proofs.text.read_lines.Given as goal

-- the text of what was read, and what is left
abbrev pub invariant-lines : goal.invariant-lines
invariant-lines l = record {
  text : history_text l.initial.calls.items ++ l.text ≡ history_text l.calls.items ++ l.rest;
  fits : AllFit l.calls.items;
  count : length l.initial.calls.items ≤ length l.calls.items;
}

abbrev pub decreases-lines : goal.decreases-lines
decreases-lines l = length l.rest
