use Rattle.std.proofs.Common.{◌≡◌, ◌<◌, ◌≤◌, ◌==◌, ℕ, false}
use Rattle.std.specs.List.{list_any}
use Rattle.mq_model.specs.Record.{first}
use Rattle.journal_views.proofs.facts.last_caller.Given as goal

abbrev pub invariant-loop-i : goal.invariant-loop-i
invariant-loop-i l = record {
  few : l.last ≤ 2048;
  none : (p : ℕ) → l.last < p → p ≤ 2048 →
      list_any (λ r. r.entry.process == p) (first l.i l.journal.records) ≡ false;
}
