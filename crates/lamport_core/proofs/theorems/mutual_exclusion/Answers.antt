use Rattle.lamport_core.proofs.Worlds.{one_inside, reach_safe}
use Rattle.lamport_core.proofs.theorems.mutual_exclusion.Goals as goal

pub returns : goal.returns
returns c = record {
  safe = reach_safe;
  one_inside = λ n w i j r. one_inside w i j (reach_safe n w r);
}
