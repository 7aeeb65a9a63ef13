use Rattle.std.proofs.Common.{◌≡◌, ◌≤◌, ◌++◌, false, length}
use Rattle.journal_format.specs.Lines.{HasRead}
use Rattle.journal_format.specs.Text.{has_feed}
use Rattle.history_judge.specs.Fitting.{AllFit}
use Rattle.history_judge.specs.Text.{history_text}
use Rattle.journal_format.specs.declared.lines.TheConstants.{CHUNK}
use Rattle.history_judge.proofs.input.read_input.Given as goal

-- the text of what was read, and the line that lacks its line feed
abbrev pub invariant-lines : goal.invariant-lines
invariant-lines g l = record {
  fits : AllFit l.calls.items;
  rest : has_feed l.lines.rest.items ≡ false;
  short : length l.lines.rest.items ≤ CHUNK;
  read : HasRead (g.R.ByteSource.remaining l.fn.input) (g.R.ByteSource.remaining l.input)
      (history_text l.calls.items ++ l.lines.rest.items) l.lines.left;
  well : g.R.ByteSource.failed l.input ≡ g.R.ByteSource.failed l.fn.input;
}

abbrev pub decreases-lines : goal.decreases-lines
decreases-lines g l = l.lines.left
