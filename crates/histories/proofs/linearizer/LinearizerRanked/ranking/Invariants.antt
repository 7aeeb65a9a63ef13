use Rattle.std.proofs.Common.{◌≡◌}
use Rattle.histories.specs.Stage.{ranking_of_first}
use Rattle.histories.proofs.linearizer.LinearizerRanked.ranking.Given as goal

abbrev pub invariant-loop-index : goal.invariant-loop-index
invariant-loop-index l = l.order.items ≡ ranking_of_first l.self l.index
