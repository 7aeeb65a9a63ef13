use Rattle.mq_model.specs.Threads.{owner_of}
use Rattle.mq_model.specs.Owners.{with_slot}
use Rattle.mq_model.proofs.Rows.{changed-set}
use Rattle.mq_model.proofs.owners.set_slot.Goals as goal

pub returns : goal.returns
unfolding with_slot
returns c = rw c.owner_of.ensures (changed-set _ c.args.owners.now (owner_of c.args.p) _
    c.requires.process)
