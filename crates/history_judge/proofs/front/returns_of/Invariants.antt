use Rattle.std.proofs.Common.{◌≡◌, ◌++◌, drop}
use Rattle.history_judge.specs.Fronts.{returns_from}
use Rattle.history_judge.proofs.front.returns_of.Given as goal

abbrev pub invariant-loop-index : goal.invariant-loop-index
invariant-loop-index l = l.returns.items ++ returns_from l.index (drop l.index l.calls) ≡
    returns_from 0 l.calls
