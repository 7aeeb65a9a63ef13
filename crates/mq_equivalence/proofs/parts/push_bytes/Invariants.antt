use Rattle.std.proofs.Common.{◌≡◌, ◌++◌, drop}
use Rattle.mq_equivalence.proofs.parts.push_bytes.Given as goal

abbrev pub invariant-loop-b : goal.invariant-loop-b
invariant-loop-b l = l.key.items ++ drop l.b-index l.bytes ≡ l.initial.key.items ++ l.bytes
