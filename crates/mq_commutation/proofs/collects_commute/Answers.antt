use Rattle.mq_commutation.proofs.Collects.{collect-commutes}
use Rattle.mq_commutation.proofs.collects_commute.Goals as goal

pub returns : goal.returns
returns c = collect-commutes
