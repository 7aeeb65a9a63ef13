use Rattle.std.proofs.Common.{◌∙◌, ap, length, arith}
use Rattle.mq_ledger.specs.Ledgers.{Shown}
use Rattle.mq_model.specs.Legality.{reply_to}
use Rattle.mq_state.proofs.CallersOf.{owner-inside}
use Rattle.mq_state.specs.Requests.{without_deadline}
use Rattle.mq_state.proofs.Fitting.{reply-fits}
use Rattle.mq_state.proofs.Reachable.{reply-readable}
use Rattle.mq_state.proofs.Bounded.{called, called-refused, needs, keeps-less, entry-room}
use Rattle.mq_state.proofs.tables.Tables.make.Goals as goal

pub returns-in-Err-clause-called : goal.returns-in-Err-clause-called
returns-in-Err-clause-called c =
    let plain = c.plain_reply-plain.ensures ∙ ap (λ (j : Shown). reply_to j.records c.args.p
    (without_deadline c.args.call) c.args.given.now) c.whole-past.ensures in
    let full = needs c.args.self.now.bounds c.args.journal.now.records c.args.p c.args.call
    c.args.given.now c.plain_reply-plain.result c.entries_needed-entries.result
    (length c.payload_of-most.result.now) plain c.entries_needed-entries.ensures.value
    (ap length c.payload_of-most.ensures.value) in
    rw c.refused.ensures (called-refused c.args.journal.now c.make_room_for.new.journal
    c.args.self.now c.args.p c.args.call c.args.given.now c.entries_needed-entries.result
    (length c.payload_of-most.result.now) c.in-Err.fault c.make_room_for.result full
    c.make_room_for.ensures.full c.in-Err.is c.make_room_for.ensures.records
    c.make_room_for.ensures.no_less c.make_room_for.ensures.kept c.requires.may_call.pool
    c.make_room_for.ensures.stored)

pub make_notice_room-requires-clause-process : goal.make_notice_room-requires-clause-process
make_notice_room-requires-clause-process c = grind (arith, owner-inside)

pub make_room_for-requires-clause-within : goal.make_room_for-requires-clause-within
make_room_for-requires-clause-within c = grind (arith, keeps-less)

pub record-requires-clause-entries : goal.record-requires-clause-entries
record-requires-clause-entries c = grind (arith, entry-room)

pub fill-received-requires : goal.fill-received-requires
fill-received-requires c =
    let plain = c.plain_reply-plain.ensures ∙ ap (λ (j : Shown). reply_to j.records c.args.p
    (without_deadline c.args.call) c.args.given.now) c.whole-past.ensures in
    record {
      readable = reply-readable c.make_room_for.new.journal c.make_room_for.ensures.kept.readable
          c.make_room_for.ensures.kept.tables.legal c.args.p c.args.call c.args.given.now
          c.by_deadline-reply.result (rw c.make_room_for.ensures.records
          (c.by_deadline-reply.ensures c.args.journal.now.records c.args.p c.args.given.now plain));
      room = grind (arith, reply-fits);
    }

pub returns-clause-called : goal.returns-clause-called
returns-clause-called c =
    let past = c.args.journal.now.records in
    let plain = c.plain_reply-plain.ensures ∙ ap (λ (j : Shown). reply_to j.records c.args.p
    (without_deadline c.args.call) c.args.given.now) c.whole-past.ensures in
    let full = needs c.args.self.now.bounds past c.args.p c.args.call c.args.given.now
    c.plain_reply-plain.result c.entries_needed-entries.result
    (length c.payload_of-most.result.now) plain c.entries_needed-entries.ensures.value
    (ap length c.payload_of-most.ensures.value) in
    called c.args.journal.now c.make_room_for.new.journal c.record.new.journal c.args.self.now
    c.record.new.self c.args.p c.args.call c.args.given.now c.by_deadline-reply.result
    c.entries_needed-entries.result (length c.payload_of-most.result.now) c.make_room_for.result
    full c.make_room_for.ensures.full c.in_default.is (c.by_deadline-reply.ensures past c.args.p
    c.args.given.now plain) c.make_room_for.ensures.records c.record.ensures.appends
    c.record.ensures.kept c.record.ensures.pool
    (c.record.ensures.n ∙ c.fresh_slots.ensures.same.n ∙ c.make_notice_room.ensures.same.n)
    (c.record.ensures.bounds ∙ c.fresh_slots.ensures.same.bounds ∙
    c.make_notice_room.ensures.same.bounds) (c.record.ensures.stored ∙
    c.make_room_for.ensures.stored)
