use Rattle.std.proofs.Common.{◌≡◌, ◌∙◌}
use Rattle.journal_format.specs.Text.{journal_text}
use Rattle.journal_tasks.proofs.record.record_script.Goals as goal

pub returns-in_err-write_all-clause-bad_call : goal.returns-in_err-write_all-clause-bad_call
returns-in_err-write_all-clause-bad_call g c = λ all line known written. absurd
    (c.in_ok-journal.ensures.bad_call all line known written)

pub returns-clause-bad_call : goal.returns-clause-bad_call
returns-clause-bad_call g c = λ all line known written. absurd (c.in_ok-journal.ensures.bad_call all
    line known written)

pub returns-clause-done : goal.returns-clause-done
returns-clause-done g c = λ all script known written.
    let ran = c.in_ok-journal.ensures.done all script known written in
    let text : c.as_slice.result.now ≡ journal_text c.in_ok-journal.journal.records =
    c.as_slice.ensures.value ∙ c.in_ok-text.ensures.text in
    record {
      journal = c.in_ok-journal.journal.records;
      noted = ran.0;
      ran = ran.1;
      written = rw text at c.in_ok-write_all.ensures.whole;
    }

pub returns-in_err-write_all-clause-output : goal.returns-in_err-write_all-clause-output
returns-in_err-write_all-clause-output g c = λ failed.
    let text : c.as_slice.result.now ≡ journal_text c.in_ok-journal.journal.records =
    c.as_slice.ensures.value ∙ c.in_ok-text.ensures.text in
    record {
      journal = c.in_ok-journal.journal.records;
      legal = c.in_ok-journal.ensures.legal;
      fits = c.in_ok-text.ensures.fits;
      written = rw text at c.in_err-write_all.ensures.failed;
    }

pub returns-in_err-write_all-clause-output_of : goal.returns-in_err-write_all-clause-output_of
returns-in_err-write_all-clause-output_of g c = λ all script known written failed.
    let ran = c.in_ok-journal.ensures.done all script known written in
    let text : c.as_slice.result.now ≡ journal_text c.in_ok-journal.journal.records =
    c.as_slice.ensures.value ∙ c.in_ok-text.ensures.text in
    record {
      journal = c.in_ok-journal.journal.records;
      noted = ran.0;
      ran = ran.1;
      written = rw text at c.in_err-write_all.ensures.failed;
    }
