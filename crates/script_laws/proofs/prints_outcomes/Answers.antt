use Rattle.script_laws.proofs.Phasing.{run-observed}
use Rattle.script_laws.proofs.prints_outcomes.Goals as goal

pub returns : goal.returns
returns c = λ script replies journal from ran ample begins. run-observed script replies journal ran
    from ample begins
