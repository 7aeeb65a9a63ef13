use Rattle.lamport_core.proofs.LineSteps.{next_line, counted_line}
use Rattle.lamport_core.proofs.theorems.lines.Goals as goal

pub returns : goal.returns
returns c = record {
  line = λ w i s p. next_line w i s p;
  counted = λ n k p q some few h l. counted_line n k some few p q h l;
}
