use Rattle.std.proofs.Common.{refl, []}
use Rattle.script_laws.specs.RunLaws.{replies_after}
use Rattle.script_laws.proofs.Phasing.{after-end, run-after-observed, observed-found}
use Rattle.script_laws.proofs.prints_what_is_found_after.Goals as goal

pub returns : goal.returns
returns c = λ past script replies journal from found ran some ample begins all.
    (observed-found (λ to next. Unit {0}) from from [] found 0 (replies_after ran) all refl
    (run-after-observed past script replies journal ran from
    (after-end past script replies journal some ran) ample begins)).phases
