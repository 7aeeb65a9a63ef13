use Rattle.mq_model.specs.Record.{first}
use Rattle.mq_equivalence.specs.Kinds.{AreMarked, ended}
use Rattle.mq_equivalence.proofs.standing.gone.Given as goal

abbrev pub invariant-loop-i : goal.invariant-loop-i
invariant-loop-i l = AreMarked l.n (ended l.kind (first l.i l.journal.records)) l.marks.items
