use Rattle.std.proofs.Common.{◌≡◌, ◌++◌, map, drop}
use Rattle.history_judge.specs.Seen.{seen_call}
use Rattle.history_judge.specs.Fronts.{front_by, front_until, is_held}
use Rattle.history_judge.proofs.front.front_of.Given as goal

abbrev pub invariant-loop-called : goal.invariant-loop-called
invariant-loop-called l =
    map seen_call l.front.items
    ++ map seen_call (front_by l.last.0 (λ p. is_held l.last p l.calls)
    (drop l.called-index l.calls)) ≡
    map seen_call (front_until l.last l.calls)
