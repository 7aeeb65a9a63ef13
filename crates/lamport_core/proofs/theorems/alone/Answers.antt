use Rattle.lamport_core.proofs.Worlds.{enters_alone, leaves_alone, same_alone}
use Rattle.lamport_core.proofs.theorems.alone.Goals as goal

pub returns : goal.returns
returns c = record {
  enters = λ w i s p free rest. enters_alone w i s p free rest;
  leaves = λ w i s p free rest. leaves_alone w i s p free rest;
  same = λ w i s p free rest. same_alone w i s.same_count p free rest s;
}
