use Rattle.script_orders.proofs.Making.{has-made}
use Rattle.script_orders.proofs.orders.all_is_made.Goals as goal

pub returns : goal.returns
returns c = λ script from s schedule index few begins run stands free. has-made script from s
    schedule index few begins run stands free
