use Rattle.script_laws.proofs.Phasing.{after-end}
use Rattle.script_laws.proofs.goes_on_from_its_past.Goals as goal

pub returns : goal.returns
returns c = λ past script replies journal some ran.
    let end = after-end past script replies journal some ran in (end.more, end.is)
