use Rattle.std.proofs.Common.{◌≡◌, ◌∙◌, ◌++◌, Err, [], ap, sym, subst}
use Rattle.journal_format.specs.JournalFault.{StopsAt}
use Rattle.journal_format.specs.Text.{journal_text}
use Rattle.journal_format.specs.declared.fault.JournalFault.TheVariants.{BadLine, Input}
use Rattle.journal_format.proofs.Arriving.{as_err, found_of, only_from, stops_from_start}
use Rattle.journal_format.proofs.text.read_journal.Goals as goal

pub returns-in-Ok-clause-only : goal.returns-in-Ok-clause-only
returns-in-Ok-clause-only c = λ past fits is.
    let text = c.args.text.now in
    let read = c.read_lines.new.journal in
    let rest = c.in-Ok.rest.now in
    let text_is : text ≡ journal_text read.records ++ rest =
    sym (ap (λ p. journal_text p ++ text) c.new-journal.ensures) ∙ c.in-Ok.ensures.lines in
    only_from c.whole.result text past fits is
    (found_of c.whole.result read text rest c.in-Ok.ensures.fits text_is c.whole.ensures.whole)
    c.whole.ensures.few
    (λ line bad. subst (StopsAt line) (sym text_is) (c.whole.ensures.bad_line line bad))
    c.whole.ensures.number c.whole.ensures.no_input

pub returns-in-Err-clause-only : goal.returns-in-Err-clause-only
returns-in-Err-clause-only c = λ past fits is.
    only_from (Err c.in-Err.fault) c.args.text.now past fits is tt tt
    (λ line bad. stops_from_start line c.args.text.now c.new-journal.result.records
    c.new-journal.ensures (c.in-Err.ensures.bad_line line
    (as_err c.in-Err.fault (BadLine line) bad) []))
    (λ line bad. c.in-Err.ensures.number line (as_err c.in-Err.fault (BadLine line) bad))
    (λ bad. c.in-Err.ensures.no_input (as_err c.in-Err.fault Input bad))

pub returns-in-Err-clause-bad_line : goal.returns-in-Err-clause-bad_line
returns-in-Err-clause-bad_line c = λ line bad.
    stops_from_start line c.args.text.now c.new-journal.result.records c.new-journal.ensures
    (c.in-Err.ensures.bad_line line (as_err c.in-Err.fault (BadLine line) bad) [])
