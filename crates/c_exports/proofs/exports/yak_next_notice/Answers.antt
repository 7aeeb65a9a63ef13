use Rattle.c_handles.proofs.Giving.{gives, told-both}
use Rattle.c_handles.specs.Codes.{told, code_of, written, notice_code, notice_given}
use Rattle.c_exports.proofs.exports.yak_next_notice.Goals as goal

pub returns : goal.returns
returns c = gives _ _ (λ t. told (code_of notice_code t) (written (notice_given c.args.value.now)
    c.args.value.now t)) _ _ _ _ c.make-tried.ensures
    (told-both c.notice.ensures.code c.notice.ensures.value)
