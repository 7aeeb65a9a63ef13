use Rattle.std.proofs.Common.{rules, ◌≡◌, ◌++◌, ◌∷◌, ◌∙◌, [], None, Some, ap, append-nil, get_or, sym, take}
use Rattle.script_runner.specs.Stands.{blocked_processes}
use Rattle.script_runner.proofs.Standing.{processes-more}
use Rattle.script_runner.proofs.settling.blocked_of.Goals.{in-Some+in_ok-push-in-Some, in-None}
use Rattle.script_runner.proofs.settling.blocked_of.Goals as goal

pub loop-worked-preserved : goal.loop-worked-preserved
loop-worked-preserved g c =
    let workers = c.args.workers.now in let i = c.loop-worked.worked-index in let worked =
    c.worked-item.result in
    elim c.match-worked.branch [
      | in-Some+in_ok-push-in-Some w ↦
          let blocked : (get_or workers i worked).blocked ≡ Some w.in-Some.field-0 =
          ap (λ x. x.blocked) (sym c.worked-item.is) ∙ w.in-Some.is in
          let number : w.number.result ≡ (get_or workers i worked).process.number =
          w.number.ensures ∙ ap (λ x. x.process.number) c.worked-item.is in
          let items : w.push.new.self.items ≡ c.loop-worked.processes.items ++ w.number.result ∷
          [] = search rules in
          rw w.processes-is (items ∙ ap (λ ps. ps ++ w.number.result ∷ []) c.loop-worked.invariant ∙
          ap (λ n. blocked_processes (take i workers) ++ n ∷ []) number ∙
          sym (processes-more workers i worked (Some w.in-Some.field-0)
          c.loop-worked-test.true blocked))
      | in-None w ↦
          let blocked : (get_or workers i worked).blocked ≡ None =
          ap (λ x. x.blocked) (sym c.worked-item.is) ∙ w.in-None.is in
          rw w.processes-is (c.loop-worked.invariant ∙
          sym (append-nil (blocked_processes (take i workers))) ∙
          sym (processes-more workers i worked None c.loop-worked-test.true blocked))
    ]
