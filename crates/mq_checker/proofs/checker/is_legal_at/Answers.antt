use Rattle.mq_model.specs.Record.{Record, first}
use Rattle.mq_checker.proofs.Checked.{legal_by}
use Rattle.mq_checker.proofs.checker.is_legal_at.Goals as goal

pub returns : goal.returns
returns c =
    let past = first c.args.k c.args.journal.now.records in
    let r : Record = record { entry = c.record.result.0; payload = c.record.result.1.now } in
    rw (c.record.ensures, c.all.ensures)
    (legal_by past r c.is_caller-caller.result c.may_call-turn.result c.is_payload-fits.result
    c.is_same-same.result c.requires.legal c.is_caller-caller.ensures c.may_call-turn.ensures
    c.is_payload-fits.ensures (rw c.reply_to-expected.ensures at c.is_same-same.ensures))
