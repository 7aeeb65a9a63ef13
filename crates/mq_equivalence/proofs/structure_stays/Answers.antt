use Rattle.std.proofs.Common.{◌≡◌, ℕ, List, ◌∷◌, length, subst, sym}
use Rattle.mq_model.specs.Legality.{IsLegalNext, payload_of, reply_to}
use Rattle.mq_model.proofs.Alive.{rec}
use Rattle.mq_equivalence.proofs.Alike.{payload-alike}
use Rattle.mq_equivalence.specs.Structure.{SameStructure, extended}
use Rattle.mq_equivalence.proofs.Structure.{structure-stays}
use Rattle.mq_equivalence.proofs.structure_stays.Goals as goal

pub returns : goal.returns
returns c = λ to x y p call given legal_x legal_y equivalent same next_x next_y.
    let a = reply_to x p call given in
    let b = reply_to y p call given in
    let payload : List ℕ = payload_of call a given in
    let one : payload_of call b given ≡ payload = payload-alike call b a given same in
    subst (λ (bytes : List ℕ). SameStructure (extended to (length x) (length y))
    (rec p call a payload ∷ x) (rec p call b bytes ∷ y)) (sym one)
    (structure-stays to x y p call payload a b (record {
      equivalent = equivalent;
      same = same;
      legal_x = (legal_x, next_x);
      legal_y =
          (legal_y, subst (λ (bytes : List ℕ). IsLegalNext y (rec p call b bytes)) one next_y);
    }))
