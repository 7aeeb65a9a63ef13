use Rattle.std.proofs.Common.{◌≡◌, ◌∙◌, refl}
use Rattle.journal_format.specs.Text.{journal_text}
use Rattle.journal_tasks.proofs.resume.go_on.Goals as goal

pub returns-in_err-write_all-in-Ok-clause-output : goal.returns-in_err-write_all-in-Ok-clause-output
returns-in_err-write_all-in-Ok-clause-output g c = λ failed.
    let start = rw c.in-Ok.is at c.in_ok-start.ensures in
    let text : c.as_slice.result.now ≡ journal_text c.in_ok-whole-in-Ok.whole.records =
    c.as_slice.ensures.value ∙ c.in_ok-text-in-Ok.ensures.text in
    record {
      journal = c.in_ok-whole-in-Ok.whole.records;
      noted = c.run_after.new.noted.items;
      ran = rw start.records at c.in_ok-whole-in-Ok.ensures.done;
      written = rw text at c.in_err-write_all-in-Ok.ensures.failed;
    }

pub returns-in_ok-write_all-in-Ok-clause-done : goal.returns-in_ok-write_all-in-Ok-clause-done
returns-in_ok-write_all-in-Ok-clause-done g c =
    let start = rw c.in-Ok.is at c.in_ok-start.ensures in
    let text : c.as_slice.result.now ≡ journal_text c.in_ok-whole-in-Ok.whole.records =
    c.as_slice.ensures.value ∙ c.in_ok-text-in-Ok.ensures.text in
    record {
      journal = c.in_ok-whole-in-Ok.whole.records;
      noted = c.run_after.new.noted.items;
      ran = rw start.records at c.in_ok-whole-in-Ok.ensures.done;
      written = rw text at c.in_ok-write_all-in-Ok.ensures.whole;
    }

pub returns-in-Err-clause-done : goal.returns-in-Err-clause-done
returns-in-Err-clause-done g c = (rw c.in-Err.is at c.in_ok-start.ensures, refl)
