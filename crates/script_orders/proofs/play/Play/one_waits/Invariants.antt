use Rattle.std.proofs.Common.{◌≡◌}
use Rattle.script_orders.specs.Stage.{one_waits}
use Rattle.script_orders.proofs.play.Play.one_waits.Given as goal

abbrev pub invariant-loop-index : goal.invariant-loop-index
invariant-loop-index l = l.one_waits ≡ one_waits l.self.past l.index
