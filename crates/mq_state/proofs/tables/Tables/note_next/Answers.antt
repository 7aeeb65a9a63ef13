use Rattle.std.proofs.Common.{◌≡◌, ◌∙◌, ◌+◌, ◌≤◌, ◌∷◌, ℕ, List, length, refl, sym, ap, subst, arith, vec_len, vec_capacity}
use Rattle.mq_model.specs.Record.{Record, Past}
use Rattle.mq_model.specs.Legality.{IsLegalNext}
use Rattle.mq_model.specs.Names.{attributes_given}
use Rattle.mq_model.specs.OwnersNoted.{noted}
use Rattle.mq_model.specs.CallersNoted.{noted_waits}
use Rattle.mq_model.specs.declared.entries.Call.{Call}
use Rattle.mq_model.specs.declared.entries.Reply.{Reply}
use Rattle.mq_model.proofs.LegalReplies.{legal_says}
use Rattle.mq_model.proofs.OwnersKeep.{noted-fits}
use Rattle.mq_state.specs.declared.moves.Moves.{Moves}
use Rattle.mq_state.specs.Inboxes.{notices_in, room_in}
use Rattle.mq_state.specs.Kept.{AreThoseOf}
use Rattle.mq_state.specs.Moves.{moves_of}
use Rattle.mq_state.specs.QueueShown.{QueueShown}
use Rattle.mq_state.specs.Queues.{noted_queues, registration_in, QueuesMirror}
use Rattle.mq_state.specs.Tables.{TablesMirror, entry_queue, noted_values, with_fresh, notices_brought, HasNoticeRoom}
use Rattle.mq_state.specs.WaitCounts.{KnowWaits, moved_queue, waits_noted}
use Rattle.mq_state.proofs.Calling.{calls-keep}
use Rattle.mq_state.proofs.CallersOf.{owner-inside}
use Rattle.mq_state.proofs.Reachable.{admitted-readable}
use Rattle.mq_state.proofs.Arriving.{line-allows}
use Rattle.mq_state.proofs.Moving.{rec, EntryOn, entry-on}
use Rattle.mq_state.proofs.NoticeRoom.{notice-room-keeps, notice-room-waiting, room-to-notify}
use Rattle.mq_state.proofs.Pooling.{pooled-waiting}
use Rattle.mq_state.proofs.Rising.{rising-places}
use Rattle.mq_state.proofs.TablesKeep.{tables-keep}
use Rattle.mq_state.proofs.WaitsKnown.{waits-known, mirror-waiting}
use Rattle.mq_state.proofs.WaitsNoted.{length-noted, owners-noted, own-wait}
use Rattle.mq_state.proofs.tables.Tables.note_next.Goals as goal

on-queue : (past : Past) (p : ℕ) (call : Call) (reply : Reply) (payload : List ℕ) (q : ℕ) →
    q ≡ entry_queue past p call payload → IsLegalNext past (rec p call reply payload) →
    EntryOn past p call payload reply q
on-queue past p call reply payload q is next = subst (EntryOn past p call payload reply) (sym is)
    (entry-on past p call reply payload next)

pub note_process-requires-clause-numbers : goal.note_process-requires-clause-numbers
note_process-requires-clause-numbers c = noted-fits c.args.journal.now.records
    c.args.self.now.owners.items c.requires.tables.mirror.lines c.args.entry.process
    c.args.entry.call c.args.entry.reply c.args.payload.now c.requires.next.reply

pub note_process-requires-clause-process : goal.note_process-requires-clause-process
note_process-requires-clause-process c = grind (arith, owner-inside)

pub note_process-requires-clause-own : goal.note_process-requires-clause-own
note_process-requires-clause-own c =
    let e = c.args.entry in let past = c.args.journal.now.records in
    rw (c.moves_of-moves.ensures, c.note_notices.ensures.same)
    (own-wait past c.args.self.now.callers.items c.requires.tables.mirror.waits e.process e.call
    e.reply (legal_says past (record { entry = e; payload = c.args.payload.now })
    c.requires.next) c.requires.next.turn)

pub note_notices-requires-clause-process : goal.note_notices-requires-clause-process
note_notices-requires-clause-process c =
    let count = c.requires.tables.mirror.inbox_count in let le = c.requires.at_most in let inside =
    owner-inside c.args.entry.process c.args.self.now.n le in
    omega (arith, count, inside)

pub note_notices-requires-clause-room : goal.note_notices-requires-clause-room
note_notices-requires-clause-room c = grind (arith, room-to-notify)

pub note_queues-requires-clause-allows : goal.note_queues-requires-clause-allows
note_queues-requires-clause-allows c =
    let e = c.args.entry in let past = c.args.journal.now.records in
    let on = on-queue past e.process e.call e.reply c.args.payload.now c.args.q c.requires.queue
    c.requires.next in
    rw (c.note_process.ensures.same, c.note_notices.ensures.same, c.moves_of-moves.ensures)
    (line-allows past c.requires.tables.legal c.args.self.now.queues.items
    c.requires.tables.mirror.existing e.process e.call e.reply c.args.payload.now c.args.q on)

pub note_queues-requires-clause-rising : goal.note_queues-requires-clause-rising
note_queues-requires-clause-rising c = grind (arith, rising-places)

pub returns-clause-pool : goal.returns-clause-pool
returns-clause-pool c = grind (arith, pooled-waiting)

pub returns-clause-callers : goal.returns-clause-callers
returns-clause-callers c = grind arith

pub returns-clause-notice_room : goal.returns-clause-notice_room
returns-clause-notice_room c = grind (arith)

pub returns-clause-tables : goal.returns-clause-tables
returns-clause-tables c =
    let past = c.args.journal.now.records in
    let e = c.args.entry in
    let payload = c.args.payload.now in
    let before = c.args.self.now in
    let made = c.note_queues.new.self in
    let after = c.note_waiting.new.self in
    let q = c.args.q in
    let r : Record = record { entry = e; payload = payload } in
    let moves : Moves = moves_of past e.call e.reply in
    let on = on-queue past e.process e.call e.reply payload q c.requires.queue c.requires.next in
    let same_n : made.n ≡ before.n = rw (
      c.note_queues.ensures.same,
      c.note_process.ensures.same,
      c.note_notices.ensures.same,
    ) refl in
    let owners : made.owners.items ≡ noted before.owners.items e.process e.call e.reply q =
    rw (c.note_queues.ensures.same, c.note_process.ensures.owners, c.note_notices.ensures.same)
    refl in
    let callers : made.callers.items ≡ noted_waits before.callers.items (length past) e.process
    e.call e.reply q = rw (
      c.note_queues.ensures.same,
      c.note_process.ensures.callers,
      c.note_notices.ensures.same,
      c.len-here.ensures,
    ) refl in
    let queues : made.queues.items ≡ with_fresh c.args.fresh (attributes_given e.call) (length past)
    (noted_queues made.owners.items (length past) e q moves before.queues.items) =
    rw (
      c.note_queues.ensures.queues,
      c.note_queues.ensures.same,
      c.note_process.ensures.same,
      c.note_notices.ensures.same,
      c.len-here.ensures,
      c.moves_of-moves.ensures,
    ) refl in
    let inboxes : (k : ℕ) →
    notices_in made.inboxes.items k ≡ noted_values e.process
    (registration_in before.queues.items q) moves k (notices_in before.inboxes.items k) =
    λ k. rw (
      c.note_queues.ensures.same,
      c.note_process.ensures.same,
      c.note_notices.ensures.inboxes
          k,
      c.moves_of-moves.ensures,
    ) refl in
    let rooms : (k : ℕ) →
    room_in before.inboxes.items k ≤ room_in made.inboxes.items k + notices_brought
    (registration_in before.queues.items q) moves.notified k =
    λ k. rw (c.note_queues.ensures.same, c.note_process.ensures.same)
    (rw c.moves_of-moves.ensures at (c.note_notices.ensures.notice_room k)) in
    let mirror : TablesMirror (r ∷ past) before.n made.owners.items made.callers.items
    made.queues.items made.inboxes.items =
    tables-keep past c.requires.tables.legal before.n before.owners.items made.owners.items
    before.callers.items made.callers.items before.queues.items made.queues.items
    before.inboxes.items made.inboxes.items c.requires.tables.mirror
    e.process e.call e.reply payload (vec_len before.queues) (vec_capacity before.queues)
    c.args.fresh q c.requires.next on c.requires.at_most c.requires.brings
    (line-allows past c.requires.tables.legal before.queues.items c.requires.tables.mirror.existing
    e.process e.call e.reply payload q on)
    (record {
      owners_are = owners;
      callers_are = callers;
      queues_are = queues;
      inbox_count = rw (c.note_queues.ensures.same, c.note_process.ensures.same)
          c.note_notices.ensures.count;
      inboxes_are = inboxes;
    })
    (ap length owners ∙ owners-noted before.owners.items e.process e.call e.reply q)
    (ap length callers ∙ length-noted before.callers.items (length past) e.process e.call e.reply q)
    in
    let notice_room : HasNoticeRoom made.queues.items made.inboxes.items =
    subst (λ (xs : List QueueShown). HasNoticeRoom xs made.inboxes.items) (sym queues)
    (notice-room-keeps past c.requires.tables.legal before.queues.items
    c.requires.tables.mirror.existing e.process e.call e.reply payload q on before.inboxes.items
    made.inboxes.items c.requires.tables.notice_room
    rooms c.requires.registration c.args.fresh (attributes_given e.call) made.owners.items moves) in
    let lines : after.queues.items ≡
    waits_noted (moved_queue before.callers.items e.process moves.wait q) made.callers.items
    made.queues.items =
    rw (
      c.note_waiting.ensures.queues,
      c.moved_queue-moved.ensures,
      c.deref.ensures.value,
      c.moves_of-moves.ensures,
    ) refl in
    let known : KnowWaits made.callers.items after.queues.items =
    subst (KnowWaits made.callers.items)
    (sym (lines ∙ ap (waits_noted (moved_queue before.callers.items e.process moves.wait q)
    made.callers.items) queues))
    (waits-known past c.requires.tables.legal before.callers.items made.callers.items
    made.owners.items c.requires.tables.mirror.waits e q moves c.args.fresh
    (attributes_given e.call) before.queues.items
    (let count = c.requires.tables.mirror.caller_count in let le = c.requires.at_most in
    omega (arith, count, le))
    (own-wait past before.callers.items c.requires.tables.mirror.waits e.process e.call e.reply
    (legal_says past r c.requires.next) c.requires.next.turn)
    callers c.requires.tables.known) in
    let those : AreThoseOf (r ∷ past) (record made { queues = after.queues }) = record {
      legal = (c.requires.tables.legal, c.requires.next);
      few = rw same_n c.requires.tables.few;
      mirror = record {
        owner_count = rw same_n mirror.owner_count;
        caller_count = rw same_n mirror.caller_count;
        inbox_count = rw same_n mirror.inbox_count;
        lines = mirror.lines;
        waits = mirror.waits;
        existing = subst (QueuesMirror (r ∷ past)) (sym lines) (mirror-waiting (r ∷ past)
            (moved_queue before.callers.items e.process moves.wait q) made.callers.items
            made.queues.items mirror.existing);
        notices = mirror.notices;
      };
      waits = rw (c.note_queues.ensures.same, c.note_process.ensures.callers)
          c.note_process.ensures.waits;
      known = known;
      calls = rw same_n (rw (
        c.note_queues.ensures.same,
        c.note_process.ensures.calls,
        c.note_notices.ensures.same,
        c.moves_of-moves.ensures,
      )
          (calls-keep past r before.n before.calls.items c.requires.tables.calls
          c.requires.at_most));
      notice_room = subst (λ (xs : List QueueShown). HasNoticeRoom xs made.inboxes.items)
          (sym lines) (notice-room-waiting (moved_queue before.callers.items e.process moves.wait q)
          made.callers.items made.queues.items made.inboxes.items notice_room);
    } in
    subst (AreThoseOf (r ∷ past)) (sym c.note_waiting.ensures.same) those

pub moves_of-moves-requires : goal.moves_of-moves-requires
moves_of-moves-requires c = admitted-readable c.args.journal.now c.requires.readable
    c.requires.tables.legal (record { entry = c.args.entry; payload = c.args.payload.now })
    c.requires.next
