use Rattle.std.proofs.Common.{◌≡◌}
use Rattle.script_orders.specs.Stage.{waiting_lines}
use Rattle.script_orders.proofs.play.Play.waiting_lines.Given as goal

abbrev pub invariant-loop-index : goal.invariant-loop-index
invariant-loop-index l = l.text.items ≡ waiting_lines l.self l.index
