use Rattle.mq_slots.proofs.Making.{fresh-messages, fresh-sound}
use Rattle.mq_slots.proofs.chains.Slots.new.Goals as goal

pub invariant_of-result : goal.invariant_of-result
invariant_of-result c = fresh-sound _ _ _ _ (c.in_ok-cells.ensures) (c.in_ok-levels.ensures.items)
    c.requires.few (c.in_ok-levels.ensures.capacity)

pub returns-clause-empty : goal.returns-clause-empty
returns-clause-empty c = fresh-messages _ _ (c.in_ok-cells.ensures)
