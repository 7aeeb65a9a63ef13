use Rattle.std.proofs.Common.{◌≡◌, ◌++◌, drop}
use Rattle.mq_model.specs.Notices.{notices}
use Rattle.mq_equivalence.specs.Key.{codes, number}
use Rattle.mq_equivalence.proofs.parts.push_notices.Given as goal

abbrev pub invariant-loop-index : goal.invariant-loop-index
invariant-loop-index l =
    l.key.items ++ codes number (drop l.index (notices l.trail l.p)) ≡ l.initial.key.items ++
    codes number (notices l.trail l.p)
