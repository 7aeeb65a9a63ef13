use Rattle.script_laws.proofs.Standing.{stand-observed}
use Rattle.script_laws.proofs.outcomes_have_deadlocks.Goals as goal

pub returns : goal.returns
returns c = λ script lines old new from stop ample begins. stand-observed script lines old new from
    stop ample begins
