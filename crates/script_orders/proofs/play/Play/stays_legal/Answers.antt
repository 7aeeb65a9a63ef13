use Rattle.std.proofs.Common.{length, ap, arith}
use Rattle.script_orders.specs.Stage.{Stage}
use Rattle.script_orders.proofs.Legality.{are-legal}
use Rattle.script_orders.proofs.play.Play.stays_legal.Goals as goal

pub returns : goal.returns
returns c =
    let count = ap (λ (t : Stage). length t.programs) c.self.view_is in
    let start = ap (λ (t : Stage). t.start) c.self.view_is in
    are-legal c.args.self.now (omega (arith, count, c.self.invariant.few))
    (rw (← start) c.self.invariant.legal)
