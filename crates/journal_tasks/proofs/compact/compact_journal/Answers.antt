use Rattle.std.proofs.Common.{◌≡◌, ◌∙◌, Err, Result, ap, refl}
use Rattle.mq_model.specs.declared.journals.Journal.{Journal}
use Rattle.journal_format.specs.Text.{journal_text}
use Rattle.journal_format.specs.declared.fault.JournalFault.{JournalFault}
use Rattle.journal_format.specs.declared.fault.JournalFault.TheVariants as journal
use Rattle.journal_tasks.proofs.Naming.{named_line}
use Rattle.journal_tasks.proofs.compact.compact_journal.Goals as goal

pub returns-in_err-journal-clause-bad_line : goal.returns-in_err-journal-clause-bad_line
returns-in_err-journal-clause-bad_line g c = λ all line known bad.
    let named : ◌≡◌ {A = Result Journal JournalFault} (Err c.in_err-journal.field-0.0)
    (Err (journal.BadLine line)) =
    ap (λ fault. Err fault) (named_line c.in_err-journal.field-0.0 line
    (rw bad at c.from_residual.ensures.1)) in
    c.in_err-journal.ensures.bad_line all line known named

pub returns-in_err-write_all-in-Ok-clause-output : goal.returns-in_err-write_all-in-Ok-clause-output
returns-in_err-write_all-in-Ok-clause-output g c = λ failed.
    let equivalent = rw c.in-Ok.is at c.in_ok-short.ensures in
    let text : c.as_slice.result.now ≡ journal_text c.in-Ok.short.records =
    c.as_slice.ensures.value ∙ c.in_ok-text-in-Ok.ensures.text in
    record {
      short = c.in-Ok.short.records;
      legal = equivalent.equivalent.legal.1;
      written = rw text at c.in_err-write_all-in-Ok.ensures.failed;
    }

pub returns-in_ok-write_all-in-Ok-clause-done : goal.returns-in_ok-write_all-in-Ok-clause-done
returns-in_ok-write_all-in-Ok-clause-done g c = λ all known.
    let found = c.in_ok-journal.ensures.found all known in
    let equivalent = rw c.in-Ok.is at c.in_ok-short.ensures in
    let text : c.as_slice.result.now ≡ journal_text c.in-Ok.short.records =
    c.as_slice.ensures.value ∙ c.in_ok-text-in-Ok.ensures.text in
    record {
      past = c.in_ok-journal.journal.records;
      fits = found.0;
      text = found.1;
      written = (
        c.in-Ok.short.records,
        equivalent,
        rw text at c.in_ok-write_all-in-Ok.ensures.whole,
      );
    }

pub returns-in-Err-clause-done : goal.returns-in-Err-clause-done
returns-in-Err-clause-done g c = λ all known.
    let found = c.in_ok-journal.ensures.found all known in
    record {
      past = c.in_ok-journal.journal.records;
      fits = found.0;
      text = found.1;
      written = (rw c.in-Err.is at c.in_ok-short.ensures, refl);
    }
