use Rattle.std.proofs.Common.{◌≡◌, ◌∙◌, Err, Result, ap}
use Rattle.journal_tasks.specs.Verdict.{verdict_text}
use Rattle.journal_tasks.specs.declared.fault.LogFault.TheVariants.{NoMemory, Output}
use Rattle.mq_model.specs.declared.journals.Journal.{Journal}
use Rattle.journal_format.specs.declared.fault.JournalFault.{JournalFault}
use Rattle.journal_format.specs.declared.fault.JournalFault.TheVariants as journal
use Rattle.journal_tasks.proofs.Naming.{named_line}
use Rattle.journal_tasks.proofs.check.check_journal.Goals as goal

pub returns-in_err-line-clause-output : goal.returns-in_err-line-clause-output
returns-in_err-line-clause-output g c = λ all known failed.
    absurd (let no : Output ≡ NoMemory = rw failed at c.from_residual-in_err-line.ensures.1 in cc)

pub returns-clause-done : goal.returns-clause-done
returns-clause-done g c = λ all known.
    let past = c.in_ok-journal.journal.records in
    let found = c.in_ok-journal.ensures.found all known in
    let line : c.as_bytes.result.now ≡ verdict_text past c.in_ok-verdict.verdict =
    c.as_bytes.ensures.value ∙ c.in_ok-line.ensures in
    record {
      past = past;
      fits = found.0;
      text = found.1;
      judges = c.in_ok-verdict.ensures;
      written = rw line at c.in_ok-write_all.ensures.whole;
    }

pub returns-in_err-write_all-clause-output : goal.returns-in_err-write_all-clause-output
returns-in_err-write_all-clause-output g c = λ all known failed.
    let past = c.in_ok-journal.journal.records in
    let found = c.in_ok-journal.ensures.found all known in
    let line : c.as_bytes.result.now ≡ verdict_text past c.in_ok-verdict.verdict =
    c.as_bytes.ensures.value ∙ c.in_ok-line.ensures in
    record {
      verdict = c.in_ok-verdict.verdict;
      past = past;
      fits = found.0;
      text = found.1;
      judges = c.in_ok-verdict.ensures;
      written = rw line at c.in_err-write_all.ensures.failed;
    }

pub returns-in_err-journal-clause-bad_line : goal.returns-in_err-journal-clause-bad_line
returns-in_err-journal-clause-bad_line g c = λ all line known bad.
    let named : ◌≡◌ {A = Result Journal JournalFault} (Err c.in_err-journal.field-0.0)
    (Err (journal.BadLine line)) =
    ap (λ fault. Err fault) (named_line c.in_err-journal.field-0.0 line
    (rw bad at c.from_residual.ensures.1)) in
    c.in_err-journal.ensures.bad_line all line known named
