use Rattle.std.proofs.Common.{IfOk}
use Rattle.script_runner.proofs.Stopping.{of-script}
use Rattle.journal_tasks.specs.Resumed.{Resumes, ResumesInPart}
use Rattle.journal_tasks.proofs.Reading.{read-no_output, script-no_output}
use Rattle.journal_tasks.proofs.resume.resume_script.Goals as goal

pub returns-in_err-text-clause-output : goal.returns-in_err-text-clause-output
returns-in_err-text-clause-output g c = λ all script known written failed.
    absurd (read-no_output c.in_err-text.field-0.0 (rw failed at c.from_residual.ensures.1))

pub returns-in_err-script-clause-output : goal.returns-in_err-script-clause-output
returns-in_err-script-clause-output g c = λ all script known written failed.
    absurd (script-no_output c.in_err-script.field-0.0
    (rw failed at c.from_residual-in_err-script.ensures.1))

pub returns-clause-output : goal.returns-clause-output
returns-clause-output g c = λ all script known written failed.
    of-script (λ s. ResumesInPart c.args.journal.records s (g.W.Write.contents c.args.output.now)
    (g.W.Write.contents c.go_on.new.output)) (rw known at c.in_ok-text.ensures.bytes)
    c.as_slice.ensures.value c.in_ok-script.ensures.written written
    (c.go_on.ensures.output failed)

pub returns-clause-done : goal.returns-clause-done
returns-clause-done g c = λ all script known written.
    of-script (λ s. IfOk c.go_on.result (λ why. Resumes c.args.journal.records s why
    (g.W.Write.contents c.args.output.now) (g.W.Write.contents c.go_on.new.output)))
    (rw known at c.in_ok-text.ensures.bytes) c.as_slice.ensures.value
    c.in_ok-script.ensures.written written c.go_on.ensures.done
