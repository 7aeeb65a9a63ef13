use Rattle.std.proofs.Common.{arith, ◌≡◌, ◌++◌, ◌∷◌, ◌∙◌, []}
use Rattle.std.proofs.lemmas.Grind.{common_steps}
use Rattle.script_runner.specs.Phase.{calls_in}
use Rattle.script_text.specs.Script.{said_call}
use Rattle.script_runner.proofs.Lists.{calls_in-push}
use Rattle.script_runner.proofs.Working.{RunsCalls-push}
use Rattle.script_runner.proofs.phase.work.Goals as goal

pub loop-turn-preserved : goal.loop-turn-preserved
loop-turn-preserved g c =
    let was = c.loop-turn.invariant in let turn = c.in-Some.turn in let now =
    c.in-Some-complete.ensures in let completion = c.in-Some-complete.completion in
    let items : c.push_reserved.new.self.items ≡ c.loop-turn.completions.items ++ completion ∷ [] =
    c.push_reserved.ensures.items in
    let calls = RunsCalls-push (calls_in c.loop-turn.yielded) (said_call turn.call)
    c.loop-turn.completions.items completion c.args.share.process c.loop-turn.process
    c.complete.new.process was.calls now.performed in
    record {
      all = grind (arith, common_steps);
      left = grind (arith, common_steps);
      room = grind (arith, common_steps);
      ready = record { made = c.complete.ensures.same.lock ∙ was.ready.made; free = now.free };
      same = record {
        lock = c.complete.ensures.same.lock ∙ was.same.lock;
        number = c.complete.ensures.same.number ∙ was.same.number;
      };
      calls = rw (items, calls_in-push c.loop-turn.yielded turn) calls;
    }
