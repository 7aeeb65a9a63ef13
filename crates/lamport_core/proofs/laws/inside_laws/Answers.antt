use Rattle.lamport_core.proofs.Along.{one_inside_at, admitted_alone, left_empty}
use Rattle.lamport_core.proofs.laws.inside_laws.Goals as goal

pub returns : goal.returns
returns c = record {
  one_inside = λ n x y i j b at s h k. one_inside_at n x y b at s i j h k;
  admitted_alone = λ n x y i b at at' P Q s m out inside. admitted_alone n x y b at at' i P
      Q s m out inside;
  left_empty = λ n x y i b at at' P Q s m inside out. left_empty n x y b at at' i P
      Q s m inside out;
}
