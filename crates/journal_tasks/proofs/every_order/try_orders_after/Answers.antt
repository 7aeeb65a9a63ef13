use Rattle.std.proofs.Common.{◌≡◌, ◌∙◌, ℕ, IfOk, List, subst, take}
use Rattle.script_runner.proofs.Stopping.{of-script}
use Rattle.journal_tasks.specs.EveryOrder.{AnswersOrNot, AnswersAfterInPart}
use Rattle.journal_tasks.proofs.Reading.{read-no_output, script-no_output}
use Rattle.journal_tasks.proofs.every_order.try_orders_after.Goals as goal

pub returns-in_err-text-clause-output : goal.returns-in_err-text-clause-output
returns-in_err-text-clause-output g c = λ all script known written failed.
    absurd (read-no_output c.in_err-text.field-0.0 (rw failed at c.from_residual.ensures.1))

pub returns-in_err-script-clause-output : goal.returns-in_err-script-clause-output
returns-in_err-script-clause-output g c = λ all script known written failed.
    absurd (script-no_output c.in_err-script.field-0.0
    (rw failed at c.from_residual-in_err-script.ensures.1))

pub returns-clause-output : goal.returns-clause-output
returns-clause-output g c = λ all script known written failed.
    let text : c.in_ok-text.text.items ≡ take 1048577 all =
    rw known at c.in_ok-text.ensures.bytes in
    let old = g.W.Write.contents c.args.output.now in
    let new = g.W.Write.contents c.try_after.new.output in
    subst (λ (bytes : List ℕ). AnswersAfterInPart c.args.journal.records script bytes c.args.trial
    old new) (c.as_slice-bytes.ensures.value ∙ text)
    (of-script (λ s. AnswersAfterInPart c.args.journal.records s c.as_slice-bytes.result.now
    c.args.trial old new) text c.as_slice-bytes.ensures.value c.in_ok-script.ensures.written
    written (c.try_after.ensures.output failed))

pub returns-clause-done : goal.returns-clause-done
returns-clause-done g c = λ all script known written.
    let text : c.in_ok-text.text.items ≡ take 1048577 all =
    rw known at c.in_ok-text.ensures.bytes in
    let old = g.W.Write.contents c.args.output.now in
    let new = g.W.Write.contents c.try_after.new.output in
    subst (λ (bytes : List ℕ). IfOk c.try_after.result
    (λ answer. AnswersOrNot c.args.journal.records script bytes c.args.trial answer old new))
    (c.as_slice-bytes.ensures.value ∙ text)
    (of-script (λ s. IfOk c.try_after.result (λ answer. AnswersOrNot c.args.journal.records s
    c.as_slice-bytes.result.now c.args.trial answer old new)) text
    c.as_slice-bytes.ensures.value c.in_ok-script.ensures.written written
    c.try_after.ensures.done)
