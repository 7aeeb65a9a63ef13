use Rattle.c_handles.proofs.Giving.{gives}
use Rattle.c_handles.specs.Codes.{code_of, given_code}
use Rattle.c_exports.proofs.exports.yak_notify.Goals as goal

pub returns : goal.returns
returns c = rw (← c.registration-value.ensures) (gives _ _ (code_of given_code) _ _ _ _
    c.make-tried.ensures c.done.ensures)
