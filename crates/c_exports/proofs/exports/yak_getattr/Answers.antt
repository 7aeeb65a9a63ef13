use Rattle.c_handles.proofs.Giving.{gives, told-both}
use Rattle.c_handles.specs.Codes.{told, code_of, written, given_code, attributes_got}
use Rattle.c_exports.proofs.exports.yak_getattr.Goals as goal

pub returns : goal.returns
returns c =
    gives _ _ (λ t. told (code_of given_code t) (written (attributes_got c.args.attributes.now)
    c.args.attributes.now t)) _ _ _ _ c.make-tried.ensures
    (told-both c.attributes.ensures.code c.attributes.ensures.attributes)
