use Rattle.std.proofs.Common.{refl, []}
use Rattle.script_laws.specs.RunLaws.{whole_replies}
use Rattle.script_laws.proofs.Phasing.{run-observed, observed-found}
use Rattle.script_laws.proofs.prints_what_is_found.Goals as goal

pub returns : goal.returns
returns c = λ script replies journal from found ran ample begins all.
    (observed-found (λ to next. Unit {0}) from from [] found 0 (whole_replies ran) all refl
    (run-observed script replies journal ran from ample begins)).phases
