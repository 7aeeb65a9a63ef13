use Rattle.std.proofs.Common.{arith}
use Rattle.script_runner.proofs.phase.start_all.Goals as goal

pub scoped-requires : goal.scoped-requires
scoped-requires g c = grind arith
