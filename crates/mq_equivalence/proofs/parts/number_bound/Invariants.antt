use Rattle.std.proofs.Common.{◌≡◌, ◌≤◌, ◌^◌}
use Rattle.mq_model.specs.Record.{first}
use Rattle.mq_equivalence.specs.Key.{number_bound}
use Rattle.mq_equivalence.proofs.parts.number_bound.Given as goal

abbrev pub invariant-loop-i : goal.invariant-loop-i
invariant-loop-i l = (l.bound ≡ number_bound (first l.i l.journal.records)) × (l.bound ≤ 2 ^ 32)
