use Rattle.std.proofs.Common.{◌≡◌, ◌++◌, map, drop}
use Rattle.history_judge.specs.Seen.{seen_call}
use Rattle.history_judge.proofs.front.whole_of.Given as goal

abbrev pub invariant-loop-called : goal.invariant-loop-called
invariant-loop-called l =
    map seen_call l.whole.items ++ map seen_call (drop l.called-index l.calls) ≡
    map seen_call l.calls
