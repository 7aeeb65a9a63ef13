use Rattle.std.proofs.Common.{arith}
use Rattle.std.proofs.lemmas.List.Elements.{All-nil, All-push}
use Rattle.mq_state.specs.Inboxes.{notices_in}
use Rattle.mq_state.proofs.InboxLines.{none-push, room-push}
use Rattle.mq_state.proofs.notices.empty.Goals as goal

pub loop-init : goal.loop-init
unfolding notices_in
loop-init c = grind (arith, All-nil)

pub loop-preserved : goal.loop-preserved
loop-preserved c = grind (arith, none-push, room-push, All-push)
