use Rattle.std.proofs.Common.{◌≡◌, ◌<◌, ℕ, List, length, ◌∷◌, subst, sym}
use Rattle.mq_model.specs.Record.{Record}
use Rattle.mq_model.specs.Threads.{owner_of}
use Rattle.mq_model.specs.Owners.{OwnersMirror}
use Rattle.mq_model.specs.OwnersNoted.{KeepsMirror, noted}
use Rattle.mq_model.specs.declared.entries.Entry.{Entry}
use Rattle.mq_model.specs.declared.owners.Owner.{Owner}
use Rattle.mq_model.proofs.OwnersKeep.{noted-keeps}
use Rattle.mq_model.proofs.owners.note.Goals as goal

keeps : (old new : List Owner) (entry : Entry) (q : ℕ) → owner_of entry.process < length old →
    new ≡ noted old entry.process entry.call entry.reply q → KeepsMirror old entry q new
keeps old new entry q lt is past payload mirror legal next on =
    let r : Record = record { entry = entry; payload = payload } in
    subst (OwnersMirror (r ∷ past)) (sym is) (noted-keeps past old mirror entry.process entry.call
    entry.reply payload q next.reply lt on)

pub returns-clause-mirror : goal.returns-clause-mirror
returns-clause-mirror c = keeps _ _ c.args.entry c.args.queue c.requires.process
    c.note_reply.ensures
