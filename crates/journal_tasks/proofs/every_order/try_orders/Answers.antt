use Rattle.std.proofs.Common.{◌≡◌, ◌∙◌, ℕ, IfOk, List, subst, take}
use Rattle.mq_model.specs.Record.{Past}
use Rattle.script_runner.proofs.Stopping.{of-script}
use Rattle.journal_tasks.specs.EveryOrder.{AnswersAfter, AnswersAfterInPart}
use Rattle.journal_tasks.proofs.Reading.{read-no_output, script-no_output}
use Rattle.journal_tasks.proofs.every_order.try_orders.Goals as goal

pub returns-in_err-text-clause-output : goal.returns-in_err-text-clause-output
returns-in_err-text-clause-output g c = λ all script known written failed.
    absurd (read-no_output c.in_err-text.field-0.0 (rw failed at c.from_residual.ensures.1))

pub returns-in_err-script-clause-output : goal.returns-in_err-script-clause-output
returns-in_err-script-clause-output g c = λ all script known written failed.
    absurd (script-no_output c.in_err-script.field-0.0
    (rw failed at c.from_residual-in_err-script.ensures.1))

pub returns-clause-output : goal.returns-clause-output
returns-clause-output g c = λ all script known written failed.
    let text : c.in_ok-text.text.items ≡ take 1048577 all =
    rw known at c.in_ok-text.ensures.bytes in
    let old = g.W.Write.contents c.args.output.now in
    let new = g.W.Write.contents c.try_script.new.output in
    subst (λ (past : Past). AnswersAfterInPart past script (take 1048577 all) c.args.trial old new)
    c.new.ensures
    (subst (λ (bytes : List ℕ). AnswersAfterInPart c.new.result.records script bytes c.args.trial
    old new) (c.as_slice-bytes.ensures.value ∙ text)
    (of-script (λ s. AnswersAfterInPart c.new.result.records s c.as_slice-bytes.result.now
    c.args.trial old new) text c.as_slice-bytes.ensures.value c.in_ok-script.ensures.written
    written (c.try_script.ensures.output failed)))

pub returns-clause-done : goal.returns-clause-done
returns-clause-done g c = λ all script known written.
    let text : c.in_ok-text.text.items ≡ take 1048577 all =
    rw known at c.in_ok-text.ensures.bytes in
    let old = g.W.Write.contents c.args.output.now in
    let new = g.W.Write.contents c.try_script.new.output in
    subst (λ (past : Past). IfOk c.try_script.result (λ ending. AnswersAfter past script
    (take 1048577 all) c.args.trial ending old new)) c.new.ensures
    (subst (λ (bytes : List ℕ). IfOk c.try_script.result
    (λ ending. AnswersAfter c.new.result.records script bytes c.args.trial ending old new))
    (c.as_slice-bytes.ensures.value ∙ text)
    (of-script (λ s. IfOk c.try_script.result (λ ending. AnswersAfter c.new.result.records s
    c.as_slice-bytes.result.now c.args.trial ending old new)) text
    c.as_slice-bytes.ensures.value c.in_ok-script.ensures.written written
    c.try_script.ensures.done))
