use Rattle.std.proofs.Common.{◌≡◌}
use Rattle.script_orders.specs.Persistence.{others_will_use}
use Rattle.script_orders.proofs.play.Play.others_will_use.Given as goal

abbrev pub invariant-loop-other : goal.invariant-loop-other
invariant-loop-other l = l.used ≡ others_will_use l.self l.q l.index l.other
