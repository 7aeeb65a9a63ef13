use Rattle.std.proofs.Common.{◌≡◌, ◌∙◌, Err, Result, ap, refl, subst}
use Rattle.mq_model.specs.Record.{Past}
use Rattle.script_text.specs.Script.{said_script}
use Rattle.script_runner.specs.declared.fault.RunFault.TheVariants.{Output}
use Rattle.journal_tasks.specs.InTime.{AnswersInTime, AnswersInTimeInPart}
use Rattle.journal_tasks.specs.declared.every_order.Ending.{Ending}
use Rattle.journal_tasks.specs.declared.start.NoStart.{NoStart}
use Rattle.journal_tasks.proofs.orders_in_time.try_after.Goals as goal

-- the same error in a result of another type
fault-alike : (A B : Type 0) {E : Type 0} (x y : E) → ◌≡◌ {A = Result A E} (Err x) (Err y) →
    ◌≡◌ {A = Result B E} (Err x) (Err y)
fault-alike A B x y same = let is : x ≡ y = cc in ap (λ e. Err e) is

pub returns-in-Ok-try_script-clause-done : goal.returns-in-Ok-try_script-clause-done
returns-in-Ok-try_script-clause-done g c =
    let start = rw c.in-Ok.is at c.in_ok-start.ensures in
    let same : c.into_journal-past.result.records ≡ c.args.journal.records =
    c.into_journal-past.ensures.value ∙ start.records in
    subst (λ (past : Past). AnswersInTime past (said_script c.args.script.now) c.args.bytes.now
    c.args.trial c.in-Ok-try_script.ending (g.W.Write.contents c.args.output.now)
    (g.W.Write.contents c.try_script.new.output)) same c.in-Ok-try_script.ensures.done

pub returns-in-Err-try_script-clause-output : goal.returns-in-Err-try_script-clause-output
returns-in-Err-try_script-clause-output g c = λ failed.
    let start = rw c.in-Ok.is at c.in_ok-start.ensures in
    let same : c.into_journal-past.result.records ≡ c.args.journal.records =
    c.into_journal-past.ensures.value ∙ start.records in
    subst (λ (past : Past). AnswersInTimeInPart past (said_script c.args.script.now)
    c.args.bytes.now c.args.trial (g.W.Write.contents c.args.output.now)
    (g.W.Write.contents c.try_script.new.output)) same (c.in-Err-try_script.ensures.output
    (fault-alike (Result Ending NoStart) Ending c.in-Err-try_script.fault Output failed))

pub returns-in-Err-clause-done : goal.returns-in-Err-clause-done
returns-in-Err-clause-done g c = (rw c.in-Err.is at c.in_ok-start.ensures, refl)
