use Rattle.std.proofs.Common.{◌≡◌, ◌≤◌, ◌+◌, ◌++◌, ℕ, List, Option, false, length, true}
use Rattle.journal_format.specs.Lines.{HasRead}
use Rattle.journal_format.specs.Text.{can_go_on, has_feed}
use Rattle.journal_format.specs.declared.lines.TheConstants.{CHUNK, MOST_LINE}
use Rattle.journal_format.proofs.lines.Lines.come.Given as goal

abbrev pub invariant-reads : goal.invariant-reads
invariant-reads g l = record {
  rest : has_feed l.self.rest.items ≡ false;
  goes_on : can_go_on l.self.rest.items ≡ true;
  read : (start : Option (List ℕ)) (front : List ℕ) →
      HasRead start (g.R.ByteSource.remaining l.fn.input) (front ++ l.initial.self.rest.items)
      l.initial.self.left →
      HasRead start (g.R.ByteSource.remaining l.input) (front ++ l.self.rest.items) l.self.left;
  less : l.self.left ≤ l.initial.self.left;
  few : length l.self.rest.items ≤ MOST_LINE + CHUNK;
  well : g.R.ByteSource.failed l.input ≡ g.R.ByteSource.failed l.fn.input;
}

abbrev pub decreases-reads : goal.decreases-reads
decreases-reads g l = l.self.left
