use Rattle.c_handles.proofs.Giving.{gives_with, told-both}
use Rattle.c_handles.specs.Codes.{told, code_of, written, got_code, message_got}
use Rattle.c_exports.proofs.exports.yak_start_timed_receive.Goals as goal

pub returns : goal.returns
returns c = rw (← c.deadline.ensures, ← c.deadline-2.ensures)
    (gives_with _ _ (λ t. told (code_of got_code t) (written (message_got c.args.message.now)
    c.args.message.now t)) _ _ _ _ c.make-tried.ensures
    (told-both c.got.ensures.code c.got.ensures.message))
