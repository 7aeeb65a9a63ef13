use Rattle.std.proofs.Common.{ap}
use Rattle.script_orders.specs.Stage.{Stage}
use Rattle.script_orders.proofs.Likewise.{stages-goal, stages-key, stages-next}
use Rattle.script_orders.proofs.play.PlayKeyed.keeps_alike.Goals as goal

pub returns : goal.returns
returns c =
    let start = ap (λ (t : Stage). t.start) c.self.view_is in
    record {
      by_key = λ x y key. stages-key c.args.self.now x y key (rw (← start) c.self.invariant.legal);
      same_goal = stages-goal;
      same_next = stages-next;
    }
