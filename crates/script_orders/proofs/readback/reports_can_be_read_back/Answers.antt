use Rattle.script_orders.proofs.Reporting.{can-be-read-back}
use Rattle.script_orders.proofs.readback.reports_can_be_read_back.Goals as goal

pub returns : goal.returns
returns c = can-be-read-back
