use Rattle.std.proofs.Common.{take}
use Rattle.std.specs.List.{AllZip}
use Rattle.mq_state.proofs.Copies.{IsCopy}
use Rattle.mq_state.proofs.tables.copies.copy_inboxes.Given as goal

abbrev pub invariant-loop-inbox : goal.invariant-loop-inbox
invariant-loop-inbox l = AllZip IsCopy (take l.inbox-index l.inboxes) l.copies.items
