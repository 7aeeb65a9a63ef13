use Rattle.std.proofs.Common.{rules, arith, ◌≡◌, ◌++◌, ◌∷◌, ◌∙◌, [], ap, sym}
use Rattle.std.proofs.lemmas.Grind.{common_steps}
use Rattle.std.proofs.lemmas.List.{map-append}
use Rattle.std.proofs.lemmas.List.Elements.{All-push}
use Rattle.script_runner.specs.Phase.{calls_in}
use Rattle.script_runner.specs.Runs.{calls_of}
use Rattle.script_text.specs.Script.{said_calls}
use Rattle.script_runner.proofs.deal.shares_of.Goals as goal

pub loop-process-preserved : goal.loop-process-preserved
loop-process-preserved g c =
    let was = c.loop-process.invariant in let share = c.in_ok-share.share in let shares =
    c.loop-process.shares.items in
    let calls = said_calls c.args.calls.now in let given = c.in_ok-share.ensures in
    let items : c.push.new.self.items ≡ shares ++ share ∷ [] = grind rules in
    let own : calls_in share.turns.items ≡ calls_of share.process.number calls = given.calls ∙
    ap (λ p. calls_of p.number calls) (sym given.process) in
    record {
      all = grind (arith, common_steps);
      left = grind (arith, common_steps);
      processes = rw items (map-append (λ s. s.process) shares (share ∷ []) ∙
          ap (λ ps. ps ++ share.process ∷ []) was.processes ∙ ap (λ p. c.loop-process.yielded ++ p ∷
          []) given.process);
      calls = rw items (All-push (λ s. calls_in s.turns.items ≡ calls_of s.process.number calls)
          shares share was.calls own);
    }
