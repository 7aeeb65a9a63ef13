use Rattle.c_handles.proofs.Giving.{gives}
use Rattle.c_handles.specs.Codes.{code_of, sent_code}
use Rattle.c_exports.proofs.exports.yak_start_timed_send.Goals as goal

pub returns : goal.returns
returns c = rw (← c.deadline.ensures, ← c.deadline-2.ensures) (gives _ _ (code_of sent_code) _ _ _ _
    c.make-tried.ensures c.sent.ensures)
