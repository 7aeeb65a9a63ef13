use Rattle.std.proofs.Common.{◌≡◌}
use Rattle.script_orders.specs.Likeness.{one_receives}
use Rattle.script_orders.proofs.play.Play.receives.Given as goal

abbrev pub invariant-loop-index : goal.invariant-loop-index
invariant-loop-index l = l.receives ≡ one_receives l.self l.index
