use Rattle.lamport_core.proofs.Along.{moves_to, sets_to, safe_along}
use Rattle.lamport_core.proofs.Worlds.{rest_safe}
use Rattle.lamport_core.proofs.laws.change_laws.Goals as goal

pub returns : goal.returns
returns c = record {
  at_rest = λ n x y b at rest down. rest_safe n x y b at rest down;
  moves = λ at i P Q e. moves_to at i P Q e;
  sets = λ b i v. sets_to b i v;
  same = λ n x y x' y' b b' at at' s ex ey eb ep. safe_along n x y x' y' b b' at at' s ex ey eb ep;
}
