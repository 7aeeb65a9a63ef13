use Rattle.std.proofs.Common.{◌≡◌, Err, Result, ap, refl}
use Rattle.journal_format.specs.declared.fault.JournalFault.{JournalFault}
use Rattle.journal_format.specs.declared.fault.JournalFault.TheVariants as journal
use Rattle.journal_tasks.specs.LogFault.{of_journal_fault}
use Rattle.journal_tasks.specs.declared.fault.LogFault.TheVariants.{NoMemory, Output}
use Rattle.mq_model.specs.declared.journals.Journal.{Journal}
use Rattle.journal_tasks.proofs.Naming.{named_line}
use Rattle.journal_tasks.proofs.state.state_journal.Goals as goal

-- reading the journal cannot fail with an output error
journal-no_output : (fault : JournalFault) → Output ≡ of_journal_fault fault → ⊥
journal-no_output (journal.BadLine line) is = cc
journal-no_output journal.Input is = cc
journal-no_output journal.NoMemory is = cc

pub returns-in_err-journal-clause-output : goal.returns-in_err-journal-clause-output
returns-in_err-journal-clause-output g c = λ all known failed.
    absurd (journal-no_output c.in_err-journal.field-0.0 (rw failed at c.from_residual.ensures.1))

pub returns-in_err-told-clause-output : goal.returns-in_err-told-clause-output
returns-in_err-told-clause-output g c = λ all known failed.
    absurd (let no : Output ≡ NoMemory = rw failed at c.from_residual-in_err-told.ensures.1 in cc)

pub returns-in_err-write_all-in-Ok-clause-output : goal.returns-in_err-write_all-in-Ok-clause-output
returns-in_err-write_all-in-Ok-clause-output g c = λ all known failed.
    let found = c.in_ok-journal.ensures.found all known in
    record {
      past = c.in_ok-journal.journal.records;
      fits = found.0;
      text = found.1;
      whole = c.in-Ok.text.items;
      is_state = rw c.in-Ok.is at c.in_ok-told.ensures;
      written = rw c.as_slice.ensures.value at c.in_err-write_all-in-Ok.ensures.failed;
    }

pub returns-in-Ok-clause-done : goal.returns-in-Ok-clause-done
returns-in-Ok-clause-done g c = λ all known.
    let found = c.in_ok-journal.ensures.found all known in
    record {
      past = c.in_ok-journal.journal.records;
      fits = found.0;
      text = found.1;
      told = (
        c.in-Ok.text.items,
        rw c.in-Ok.is at c.in_ok-told.ensures,
        rw c.as_slice.ensures.value
            at c.in_ok-write_all-in-Ok.ensures.whole,
      );
    }

pub returns-clause-done : goal.returns-clause-done
returns-clause-done g c = λ all known.
    let found = c.in_ok-journal.ensures.found all known in
    record {
      past = c.in_ok-journal.journal.records;
      fits = found.0;
      text = found.1;
      told = (rw c.in-Err.is at c.in_ok-told.ensures, refl);
    }

pub returns-in_err-journal-clause-bad_line : goal.returns-in_err-journal-clause-bad_line
returns-in_err-journal-clause-bad_line g c = λ all line known bad.
    let named : ◌≡◌ {A = Result Journal JournalFault} (Err c.in_err-journal.field-0.0)
    (Err (journal.BadLine line)) =
    ap (λ fault. Err fault) (named_line c.in_err-journal.field-0.0 line
    (rw bad at c.from_residual.ensures.1)) in
    c.in_err-journal.ensures.bad_line all line known named
