use Rattle.std.proofs.Common.{◌≡◌, true}
use Rattle.script_orders.specs.Stage.{none_can_turn}
use Rattle.script_orders.proofs.play.Play.none_can_turn.Given as goal

abbrev pub invariant-loop-index : goal.invariant-loop-index
invariant-loop-index l = none_can_turn l.self l.index ≡ true
