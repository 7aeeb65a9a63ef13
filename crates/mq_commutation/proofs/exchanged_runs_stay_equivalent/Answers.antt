use Rattle.std.proofs.Common.{◌∷◌, []}
use Rattle.mq_equivalence.specs.Runs.{after_calls}
use Rattle.mq_equivalence.proofs.Runs.{runs-equivalent}
use Rattle.mq_commutation.proofs.Independent.{independent-commute}
use Rattle.mq_commutation.proofs.exchanged_runs_stay_equivalent.Goals as goal

pub returns : goal.returns
returns c = λ past a b legal first second covered_a covered_b independent calls follows.
    runs-equivalent (after_calls past (b ∷ (a ∷ []))) (after_calls past (a ∷ (b ∷ [])))
    (independent-commute past a b legal first second covered_a covered_b independent).journals
    calls follows
