use Rattle.std.proofs.Common.{inr}
use Rattle.std.proofs.KnownBytes.{Appends-trans}
use Rattle.script_runner.specs.Runs.{last_line}
use Rattle.script_runner.proofs.Stopping.{appends-into}
use Rattle.script_runner.proofs.run.run_phases.Goals as goal

pub returns-clause-done : goal.returns-clause-done
returns-clause-done g c =
    let ran = c.in_ok-journal.ensures.done in
    let last = rw c.unwrap.ensures at c.in_ok-write_last_line.ensures.written in
    record {
      replies = ran.0;
      journal = c.in_ok-journal.journal.records;
      whole = ran.1;
      written = Appends-trans _ _ _ ran.0 last_line ran.2 last;
    }

pub returns-in_err-write_last_line-clause-output : goal.returns-in_err-write_last_line-clause-output
returns-in_err-write_last_line-clause-output g c = λ failed.
    let ran = c.in_ok-journal.ensures.done in let whole = ran.1 in
    record {
      system = whole.system;
      stops = inr (record {
        after = whole.processes;
        replies = ran.0;
        ran = whole.ran;
        written = appends-into _ _ _ ran.0 last_line ran.2
            c.in_err-write_last_line.ensures.part;
      });
    }
