use Rattle.std.proofs.Common.{◌≡◌, ◌<◌, ◌≤◌, ◌&&◌, ℕ, nat_le, arith, leb-true, subst, ◌∷◌, ◌∙◌, ap}
use Rattle.std.specs.Bool.{IsTrue}
use Rattle.std.proofs.lemmas.Bool.{and_parts}
use Rattle.mq_model.specs.Threads.{owner_of}
use Rattle.mq_model.proofs.Mates.{owner_few}
use Rattle.mq_model.specs.Record.{Record, first}
use Rattle.mq_model.specs.Legality.{Legal}
use Rattle.mq_model.proofs.OwnersKeep.{noted-fits}
use Rattle.journal_views.specs.Followed.{called_in}
use Rattle.journal_views.proofs.Follows.{follows-more}
use Rattle.journal_views.proofs.followed.note.Goals as goal

has-owner : (p n : ℕ) → n ≡ 33 → owner_of p < n
has-owner p n is = let few = owner_few p in omega (arith, few, is)

has-caller : (p n : ℕ) → n ≡ 2049 → IsTrue (nat_le 1 p && nat_le p 2048) → p < n
has-caller p n is h = let few : p ≤ 2048 =
    leb-true p 2048 (and_parts (nat_le 1 p) (nat_le p 2048) h).1 in omega (arith, few, is)

pub note_owner-requires-clause-process : goal.note_owner-requires-clause-process
note_owner-requires-clause-process c = has-owner _ _ c.requires.follows.owner_count

pub note_caller-requires : goal.note_caller-requires
note_caller-requires c =
    let past = first c.args.k c.args.journal.now.records in
    let r : Record = record { entry = c.record.result.0; payload = c.record.result.1.now } in
    let legal : Legal (r ∷ past) = subst Legal c.record.ensures c.requires.legal in
    record { caller = has-caller r.entry.process _ c.requires.follows.caller_count legal.1.process }

pub note_owner-requires-clause-numbers : goal.note_owner-requires-clause-numbers
note_owner-requires-clause-numbers c =
    let past = first c.args.k c.args.journal.now.records in
    let r : Record = record { entry = c.record.result.0; payload = c.record.result.1.now } in
    let legal : Legal (r ∷ past) = subst Legal c.record.ensures c.requires.legal in
    noted-fits past c.args.f.now.owners.items c.requires.follows.owners r.entry.process r.entry.call
    r.entry.reply r.payload legal.1.reply

pub returns : goal.returns
returns c =
    let r : Record = record { entry = c.record.result.0; payload = c.record.result.1.now } in
    follows-more c.args.journal.now.records c.args.k r c.args.f.now _ c.entry_queue-queue.result
    c.called_queue-on.result c.requires.legal c.requires.place c.record.ensures
    c.requires.follows
    c.note_owner.ensures.mirror c.note_owner.ensures.count c.note_caller.ensures.mirror
    c.note_caller.ensures.count c.in_ok-note_bound.ensures c.in_ok-push.ensures.items
    (c.called_queue-on.ensures ∙ ap (λ owners. called_in owners r.entry.process r.entry.call)
    c.deref.ensures.value) c.entry_queue-queue.ensures.opened c.entry_queue-queue.ensures.waits
