use Rattle.std.proofs.Common.{sym, subst, arith}
use Rattle.mq_state.proofs.NoticeRoom.{registrations-none}
use Rattle.mq_state.specs.WaitCounts.{KnowWaits}
use Rattle.mq_state.proofs.CallersOf.{owner-inside}
use Rattle.mq_state.proofs.Starting.{mirrors-new, knows-new, waits_count-new}
use Rattle.mq_state.proofs.tables.Tables.new.Goals as goal

pub returns-clause-empty : goal.returns-clause-empty
returns-clause-empty c = grind (arith, mirrors-new, registrations-none, waits_count-new)

pub returns-clause-notices : goal.returns-clause-notices
returns-clause-notices c = λ p le. let room = c.in_ok-inboxes.ensures.room p
    (let inside = owner-inside p c.args.n le in let count = c.last_process.ensures in
    omega (arith, inside, count)) in let is = c.in_ok-notice_room.ensures in omega (arith, room, is)

pub returns-clause-pool : goal.returns-clause-pool
returns-clause-pool c = grind (arith)

pub returns-clause-known : goal.returns-clause-known
returns-clause-known c = subst (KnowWaits c.in_ok-callers.callers.items)
    (sym c.in_ok-queues.ensures.items) (knows-new c.in_ok-callers.callers.items)
