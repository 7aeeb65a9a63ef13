use Rattle.std.proofs.Common.{◌≡◌, ◌+◌, ◌<◌, ◌≤◌, ◌&&◌, nat_le, ℕ, length, subst, sym, arith, ◌∷◌, leb-true}
use Rattle.std.specs.Bool.{IsTrue}
use Rattle.std.proofs.lemmas.Bool.{and_parts}
use Rattle.mq_model.specs.Record.{Record, Past, first}
use Rattle.mq_model.specs.Threads.{owner_of}
use Rattle.mq_model.specs.Owners.{OwnersMirror}
use Rattle.mq_model.specs.OwnersNoted.{EntryQueue}
use Rattle.mq_model.specs.Callers.{CallersMirror}
use Rattle.mq_model.specs.Legality.{Legal}
use Rattle.mq_model.proofs.Mates.{owner_few}
use Rattle.mq_model.proofs.Prefixes.{length-first}
use Rattle.mq_model.proofs.LegalReplies.{legal_says}
use Rattle.mq_model.proofs.OwnersKeep.{noted-fits}
use Rattle.mq_checker.proofs.TablesKeep.{queue-of, tables-keep}
use Rattle.mq_checker.proofs.tables.note.Goals as goal

has-owner : (p n : ℕ) → n ≡ 33 → owner_of p < n
has-owner p n is = let few = owner_few p in omega (arith, few, is)

has-caller : (p n : ℕ) → n ≡ 2049 → IsTrue (nat_le 1 p && nat_le p 2048) → p < n
has-caller p n is h = let few : p ≤ 2048 =
    leb-true p 2048 (and_parts (nat_le 1 p) (nat_le p 2048) h).1 in omega (arith, few, is)

pub note-requires-2-clause-process : goal.note-requires-2-clause-process
note-requires-2-clause-process c = has-owner _ _ c.requires.mirror.processes

pub note-requires-2-clause-numbers : goal.note-requires-2-clause-numbers
note-requires-2-clause-numbers c =
    let past = first c.args.k c.args.journal.now.records in
    let r : Record = record { entry = c.record.result.0; payload = c.record.result.1.now } in
    let legal : Legal (r ∷ past) = subst Legal c.record.ensures c.requires.legal in
    noted-fits past c.args.tables.now.owners c.requires.mirror.owners r.entry.process r.entry.call
    r.entry.reply r.payload legal.1.reply

pub note-requires-3 : goal.note-requires-3
note-requires-3 c =
    let past = first c.args.k c.args.journal.now.records in
    let r : Record = record { entry = c.record.result.0; payload = c.record.result.1.now } in
    let legal : Legal (r ∷ past) = subst Legal c.record.ensures c.requires.legal in
    record { caller = has-caller r.entry.process _ c.requires.mirror.count legal.1.process }

pub returns : goal.returns
returns c =
    let past = first c.args.k c.args.journal.now.records in
    let now = first (c.args.k + 1) c.args.journal.now.records in
    let r : Record = record { entry = c.record.result.0; payload = c.record.result.1.now } in
    let q = c.entry_queue-queue.result in
    let legal : Legal (r ∷ past) = subst Legal c.record.ensures c.requires.legal in
    let on : EntryQueue past r.entry.process r.entry.call r.payload r.entry.reply q =
    queue-of past r.entry.process r.entry.call r.payload r.entry.reply q
    (legal_says past r legal.1) c.entry_queue-queue.ensures.opened
    c.entry_queue-queue.ensures.waits in
    let long : length past ≡ c.args.k = length-first c.args.k c.args.journal.now.records
    (omega arith) in
    let held : OwnersMirror (r ∷ past) c.note-2.new.owners = c.note-2.ensures.mirror past r.payload
    c.requires.mirror.owners legal.0 legal.1 on in
    let waits : CallersMirror (r ∷ past) c.note-3.new.callers =
    c.note-3.ensures.mirror past r.payload long c.requires.mirror.callers legal.0 legal.1 on in
    tables-keep past now c.args.tables.now c.note-2.new.owners c.note-3.new.callers c.note.new.marks
    r c.args.k q c.requires.mirror c.record.ensures long
    (subst (λ (x : Past). OwnersMirror x c.note-2.new.owners) (sym c.record.ensures) held)
    c.note-2.ensures.table
    (subst (λ (x : Past). CallersMirror x c.note-3.new.callers) (sym c.record.ensures) waits)
    c.note-3.ensures.table
    c.note.ensures
