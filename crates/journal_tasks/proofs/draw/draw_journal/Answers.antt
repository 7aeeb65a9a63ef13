use Rattle.std.proofs.Common.{◌≡◌, ◌∙◌, Err, Result, ap, length, sym}
use Rattle.journal_format.specs.declared.fault.JournalFault.{JournalFault}
use Rattle.journal_format.specs.declared.fault.JournalFault.TheVariants as journal
use Rattle.journal_views.specs.Picture.{picture_text}
use Rattle.journal_tasks.specs.LogFault.{of_journal_fault}
use Rattle.journal_tasks.specs.Window.{count_shown, first_shown}
use Rattle.journal_tasks.specs.declared.fault.LogFault.TheVariants.{NoMemory, Output}
use Rattle.mq_model.specs.declared.journals.Journal.{Journal}
use Rattle.journal_tasks.proofs.Naming.{named_line}
use Rattle.journal_tasks.proofs.draw.draw_journal.Goals as goal

-- reading the journal cannot fail with an output error
journal-no_output : (fault : JournalFault) → Output ≡ of_journal_fault fault → ⊥
journal-no_output (journal.BadLine line) is = cc
journal-no_output journal.Input is = cc
journal-no_output journal.NoMemory is = cc

pub returns-in_err-journal-clause-output : goal.returns-in_err-journal-clause-output
returns-in_err-journal-clause-output g c = λ all known failed.
    absurd (journal-no_output c.in_err-journal.field-0.0 (rw failed at c.from_residual.ensures.1))

pub returns-in_err-picture-clause-output : goal.returns-in_err-picture-clause-output
returns-in_err-picture-clause-output g c = λ all known failed.
    absurd (let no : Output ≡ NoMemory = rw failed at c.from_residual-in_err-picture.ensures.1 in
    cc)

pub returns-in_err-write_all-clause-output : goal.returns-in_err-write_all-clause-output
returns-in_err-write_all-clause-output g c = λ all known failed.
    let past = c.in_ok-journal.journal.records in
    let found = c.in_ok-journal.ensures.found all known in
    let len = length past in
    let picture : c.as_slice.result.now ≡ picture_text past (first_shown c.args.window len)
    (count_shown c.args.window len) =
    c.as_slice.ensures.value ∙ c.in_ok-picture.ensures
    ∙ ap (λ n. picture_text past n c.shown-from.result.1) c.shown-from.ensures.first ∙
    ap (λ n. picture_text past (first_shown c.args.window len) n) c.shown-from.ensures.count in
    record {
      past = past;
      fits = found.0;
      text = found.1;
      begins = sym c.is_beyond.ensures ∙ c.if-is_beyond.false;
      written = rw picture at c.in_err-write_all.ensures.failed;
    }

pub returns-clause-done : goal.returns-clause-done
returns-clause-done g c = λ all known same.
    let past = c.in_ok-journal.journal.records in
    let found = c.in_ok-journal.ensures.found all known in
    let len = length past in
    let picture : c.as_slice.result.now ≡ picture_text past (first_shown c.args.window len)
    (count_shown c.args.window len) =
    c.as_slice.ensures.value ∙ c.in_ok-picture.ensures
    ∙ ap (λ n. picture_text past n c.shown-from.result.1) c.shown-from.ensures.first ∙
    ap (λ n. picture_text past (first_shown c.args.window len) n) c.shown-from.ensures.count in
    record {
      past = past;
      fits = found.0;
      text = found.1;
      begins = sym c.is_beyond.ensures ∙ c.if-is_beyond.false;
      written = rw picture at c.in_ok-write_all.ensures.whole;
    }

pub returns-in_err-journal-clause-bad_line : goal.returns-in_err-journal-clause-bad_line
returns-in_err-journal-clause-bad_line g c = λ all line known bad.
    let named : ◌≡◌ {A = Result Journal JournalFault} (Err c.in_err-journal.field-0.0)
    (Err (journal.BadLine line)) =
    ap (λ fault. Err fault) (named_line c.in_err-journal.field-0.0 line
    (rw bad at c.from_residual.ensures.1)) in
    c.in_err-journal.ensures.bad_line all line known named
