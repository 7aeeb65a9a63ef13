use Rattle.std.proofs.Common.{◌≡◌, ◌<◌, ℕ, List, length, ◌∷◌, subst, sym}
use Rattle.mq_model.specs.Record.{Record}
use Rattle.mq_model.specs.Callers.{CallersMirror}
use Rattle.mq_model.specs.CallersNoted.{KeepsCallers, noted_waits}
use Rattle.mq_model.specs.declared.entries.Entry.{Entry}
use Rattle.mq_model.specs.declared.callers.Caller.{Caller}
use Rattle.mq_model.proofs.CallersKeep.{noted_waits-keeps}
use Rattle.mq_model.proofs.callers.note.Goals as goal

keeps : (old new : List Caller) (here : ℕ) (entry : Entry) (q : ℕ) → entry.process < length old →
    new ≡ noted_waits old here entry.process entry.call entry.reply q →
    KeepsCallers old here entry q new
keeps old new here entry q lt is past payload at mirror legal next on =
    let r : Record = record { entry = entry; payload = payload } in
    let kept : CallersMirror (r ∷ past) (noted_waits old (length past) entry.process entry.call
    entry.reply q) = noted_waits-keeps past old mirror legal r q next lt on in
    subst (CallersMirror (r ∷ past)) (sym is)
    (subst (λ n. CallersMirror (r ∷ past) (noted_waits old n entry.process entry.call
    entry.reply q)) at kept)

pub returns-clause-mirror : goal.returns-clause-mirror
returns-clause-mirror c = keeps _ _ c.args.here c.args.entry c.args.queue c.requires.caller
    c.note_reply.ensures
