use Rattle.std.proofs.Common.{◌≡◌, ℕ, List, length, ap, arith, ◌∙◌}
use Rattle.histories.specs.StageLaws.{ranking-length}
use Rattle.histories.proofs.linearizer.LinearizerRanked.ranking.Goals as goal

pub returns-clause-few : goal.returns-clause-few
returns-clause-few c =
    let at = c.loop-index.index in
    let count : length c.loop-index.order.items ≡ at = ap (λ (xs : List ℕ). length xs)
    c.loop-index.invariant ∙ ranking-length c.args.self.now at in
    let few = c.self.invariant.few in
    omega (arith, count, few, c.len-index-end.ensures, c.loop-index.auto.index-end)
