use Rattle.histories.proofs.Likewise.{stages-goal, stages-key, stages-next}
use Rattle.histories.proofs.linearizer.LinearizerKeyed.keeps_alike.Goals as goal

pub returns : goal.returns
returns c = record {
  by_key = λ x y key. stages-key c.args.self.now x y key;
  same_goal = stages-goal;
  same_next = stages-next;
}
