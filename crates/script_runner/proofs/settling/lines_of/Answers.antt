use Rattle.std.proofs.Common.{rules, ◌≡◌, ◌++◌, ◌∷◌, ◌∙◌, [], None, Some, ap, append-nil, get_or, sym, take}
use Rattle.script_runner.specs.Stands.{blocked_lines}
use Rattle.script_runner.proofs.Standing.{lines-more}
use Rattle.script_runner.proofs.settling.lines_of.Goals.{in-Some+in_ok-push-in-Some, in-None}
use Rattle.script_runner.proofs.settling.lines_of.Goals as goal

pub loop-worked-preserved : goal.loop-worked-preserved
loop-worked-preserved g c =
    let workers = c.args.workers.now in let i = c.loop-worked.worked-index in let worked =
    c.worked-item.result in
    elim c.match-worked.branch [
      | in-Some+in_ok-push-in-Some w ↦
          let line = w.in-Some.line in
          let blocked : (get_or workers i worked).blocked ≡ Some line =
          ap (λ x. x.blocked) (sym c.worked-item.is) ∙ w.in-Some.is in
          let items : w.push.new.self.items ≡ c.loop-worked.lines.items ++ line ∷ [] =
          search rules in
          rw w.lines-is (items ∙ ap (λ ls. ls ++ line ∷ []) c.loop-worked.invariant ∙
          sym (lines-more workers i worked (Some line) c.loop-worked-test.true blocked))
      | in-None w ↦
          let blocked : (get_or workers i worked).blocked ≡ None =
          ap (λ x. x.blocked) (sym c.worked-item.is) ∙ w.in-None.is in
          rw w.lines-is (c.loop-worked.invariant ∙
          sym (append-nil (blocked_lines (take i workers))) ∙
          sym (lines-more workers i worked None c.loop-worked-test.true blocked))
    ]
