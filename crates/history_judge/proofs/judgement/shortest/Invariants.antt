use Rattle.std.proofs.Common.{◌≡◌, ◌≤◌, ◌<◌, ◌+◌, ◌-◌, ℕ, true, false, length}
use Rattle.history_judge.specs.Fronts.{front_part}
use Rattle.history_judge.specs.Verdicts.{IsImpossible, IsPossible, UsesUp}
use Rattle.history_judge.proofs.judgement.shortest.Given as goal

abbrev pub invariant-loop-good : goal.invariant-loop-good
invariant-loop-good l = record {
  order : l.good ≤ l.bad;
  within : l.bad ≤ length l.returns.items;
  impossible : IsImpossible (front_part l.calls l.returns.items l.bad);
  shortest : l.is_shortest ≡ true → (before : ℕ) → before + 1 ≡ l.good →
      IsPossible (front_part l.calls l.returns.items before);
  unsure : l.is_shortest ≡ false →
      (before : ℕ) × (before < l.good) × UsesUp l.share (front_part l.calls l.returns.items before);
}

abbrev pub decreases-loop-good : goal.decreases-loop-good
decreases-loop-good l = l.bad - l.good
