use Rattle.script_orders.proofs.Likewise.{stages-observed}
use Rattle.script_orders.proofs.play.PlayEquivalentOutcomes.have_equal_outcomes.Goals as goal

pub returns : goal.returns
returns c = stages-observed
