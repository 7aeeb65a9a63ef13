use Rattle.std.proofs.Common.{List, IfOk}
use Rattle.std.proofs.lemmas.Result.{IfOk-weaker}
use Rattle.script_runner.specs.Notes.{RunsServed}
use Rattle.script_runner.specs.declared.noted.Noted.{Noted}
use Rattle.script_text.specs.Script.{said_script}
use Rattle.script_runner.proofs.Stopping.{of-script}
use Rattle.script_runner.proofs.journal.script_journal.Goals as goal

pub returns-clause-done : goal.returns-clause-done
returns-clause-done g c = λ all script known written.
    let ran = IfOk-weaker c.run_noted.result _ (λ journal. (noted : List Noted) ×
    RunsServed (said_script c.in_ok-script.script) noted journal.records)
    (λ journal done. (c.run_noted.new.noted.items, done)) c.run_noted.ensures.done in
    of-script (λ s. IfOk c.run_noted.result (λ journal. (noted : List Noted) ×
    RunsServed s noted journal.records)) (rw known at c.in_ok-text.ensures.bytes)
    c.as_slice.ensures.value c.in_ok-script.ensures.written written ran
