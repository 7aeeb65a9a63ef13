use Rattle.std.proofs.Common.{◌≡◌, ◌≤◌, length, arith, refl, ◌∙◌}
use Rattle.std.proofs.lemmas.List.Elements.{All-cons}
use Rattle.mq_model.specs.Record.{Record}
use Rattle.mq_model.specs.Callers.{waits_count}
use Rattle.mq_model.specs.CallersNoted.{noted_waits}
use Rattle.mq_model.proofs.LegalReplies.{legal_says}
use Rattle.mq_state.proofs.WaitsNoted.{waits-noted}
use Rattle.mq_state.proofs.Reachable.{room-stays, goes-to}
use Rattle.mq_laws.proofs.Needing.{enough-push}
use Rattle.mq_ledger.specs.Ledgers.{CanRead}
use Rattle.mq_state.proofs.Wholes.{those-of_whole}
use Rattle.mq_state.proofs.tables.Tables.append.Goals as goal

pub note_next-requires-clause-tables : goal.note_next-requires-clause-tables
note_next-requires-clause-tables c = those-of_whole c.args.journal.now c.whole.result
    c.args.self.now c.whole.ensures c.requires.kept

pub push-requires-clause-entry_room : goal.push-requires-clause-entry_room
push-requires-clause-entry_room c =
    let past = c.args.journal.now.records in
    let e = c.args.entry in
    let count = c.requires.kept.tables.mirror.caller_count in
    let room = waits-noted past c.args.self.now.callers.items c.requires.kept.tables.mirror.waits
    e.process e.call e.reply c.args.q c.args.journal.now.entry_room
    (legal_says past (record { entry = e; payload = c.args.payload.now }) c.requires.next)
    c.requires.next.turn (let le = c.requires.at_most in omega (arith, le, count))
    c.requires.entries in
    omega (arith, room)

pub push-requires-clause-queue : goal.push-requires-clause-queue
push-requires-clause-queue c =
    let e = c.args.entry in
    goes-to c.args.journal.now.records e.process e.call e.reply c.args.payload.now c.args.q
    c.requires.queue c.requires.next

pub returns-clause-kept : goal.returns-clause-kept
returns-clause-kept c =
    let past = c.args.journal.now.records in
    let e = c.args.entry in
    let before = c.args.self.now in
    let after = c.note_next.new.self in
    let r : Record = record { entry = e; payload = c.args.payload.now } in
    let count = c.requires.kept.tables.mirror.caller_count in
    let room = waits-noted past before.callers.items c.requires.kept.tables.mirror.waits e.process
    e.call e.reply c.args.q c.args.journal.now.entry_room (legal_says past r c.requires.next)
    c.requires.next.turn (let le = c.requires.at_most in omega (arith, le, count))
    c.requires.entries in
    let waits : waits_count after.callers.items ≡ waits_count (noted_waits before.callers.items
    (length past) e.process e.call e.reply c.args.q) = rw (
      c.note_next.ensures.callers,
      c.whole.ensures,
    ) refl in
    let pushed = c.push.ensures.entry_room in
    record {
      tables = rw c.push.ensures.records (rw c.whole.ensures at c.note_next.ensures.tables);
      processes = rw (c.push.ensures.records, c.note_next.ensures.n)
          (All-cons (λ (x : Record). x.entry.process ≤ before.n) r past c.requires.at_most
          c.requires.kept.processes);
      room = omega (arith, waits, room, pushed);
      bounded = rw c.note_next.ensures.bounds (room-stays before.bounds c.args.journal.now
          c.push.new.self r c.requires.kept.stored c.requires.kept.bounded c.push.ensures.records
          c.push.ensures.entry_room c.push.ensures.byte_room);
      notices = λ k le.
          let has = c.requires.kept.notices k (let same = c.note_next.ensures.n in
          omega (arith, le, same)) in
          let kept = c.note_next.ensures.notice_room k in
          rw (c.note_next.ensures.bounds, c.push.ensures.records) (omega (arith, has, kept));
      readable = rw c.push.ensures.records (enough-push past r (CanRead c.args.journal.now)
          (CanRead c.push.new.self) (c.requires.kept.tables.legal, c.requires.next)
          c.push.ensures.kept c.push.ensures.keeps c.requires.kept.readable);
      stored = λ some. c.push.ensures.stored ∙ c.requires.kept.stored
          (λ none. some (c.note_next.ensures.bounds ∙ none));
    }
