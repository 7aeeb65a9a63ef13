use Rattle.std.proofs.Common.{◌≡◌, ◌∙◌, ◌++◌, Err, [], List, ap, sym, subst}
use Rattle.journal_format.specs.declared.fault.JournalFault.TheVariants.{BadLine, Input}
use Rattle.journal_format.proofs.Arriving.{as_err}
use Rattle.history_judge.specs.HistoryFault.{StopsAt}
use Rattle.history_judge.specs.Text.{history_text}
use Rattle.history_judge.specs.declared.line.Called.{Called}
use Rattle.history_judge.proofs.Lines.{found_of, fits_of, only_from, stops_from_start}
use Rattle.history_judge.proofs.text.read_history.Goals as goal

pub returns-in-Ok-clause-found : goal.returns-in-Ok-clause-found
returns-in-Ok-clause-found c =
    let calls = c.read_lines.new.calls.items in
    let text_is : c.args.text.now ≡ history_text calls ++ c.in-Ok.rest.now =
    sym (ap (λ (cs : List Called). history_text cs ++ c.args.text.now) c.new-calls.ensures.items) ∙
    c.in-Ok.ensures.lines in
    found_of c.whole.result c.read_lines.new.calls c.args.text.now c.in-Ok.rest.now text_is
    c.whole.ensures.whole

pub returns-in-Ok-clause-fits : goal.returns-in-Ok-clause-fits
returns-in-Ok-clause-fits c = fits_of c.whole.result c.read_lines.new.calls c.in-Ok.rest.now
    c.in-Ok.ensures.fits c.whole.ensures.whole

pub returns-in-Ok-clause-bad_line : goal.returns-in-Ok-clause-bad_line
returns-in-Ok-clause-bad_line c = λ line bad.
    let calls = c.read_lines.new.calls.items in
    let text_is : c.args.text.now ≡ history_text calls ++ c.in-Ok.rest.now =
    sym (ap (λ (cs : List Called). history_text cs ++ c.args.text.now) c.new-calls.ensures.items) ∙
    c.in-Ok.ensures.lines in
    subst (StopsAt line) (sym text_is) (c.whole.ensures.bad_line line bad)

pub returns-in-Ok-clause-only : goal.returns-in-Ok-clause-only
returns-in-Ok-clause-only c = λ history fits is.
    let text = c.args.text.now in
    let calls = c.read_lines.new.calls in
    let rest = c.in-Ok.rest.now in
    let text_is : text ≡ history_text calls.items ++ rest =
    sym (ap (λ (cs : List Called). history_text cs ++ text) c.new-calls.ensures.items) ∙
    c.in-Ok.ensures.lines in
    only_from c.whole.result text history fits is
    (found_of c.whole.result calls text rest text_is c.whole.ensures.whole)
    (fits_of c.whole.result calls rest c.in-Ok.ensures.fits c.whole.ensures.whole)
    (λ line bad. subst (StopsAt line) (sym text_is) (c.whole.ensures.bad_line line bad))
    c.whole.ensures.no_input

pub returns-in-Err-clause-only : goal.returns-in-Err-clause-only
returns-in-Err-clause-only c = λ history fits is.
    only_from (Err c.in-Err.fault) c.args.text.now history fits is tt tt
    (λ line bad. stops_from_start line c.args.text.now c.new-calls.result.items
    c.new-calls.ensures.items (c.in-Err.ensures.bad_line line
    (as_err c.in-Err.fault (BadLine line) bad) []))
    (λ bad. c.in-Err.ensures.no_input (as_err c.in-Err.fault Input bad))

pub returns-in-Err-clause-bad_line : goal.returns-in-Err-clause-bad_line
returns-in-Err-clause-bad_line c = λ line bad.
    stops_from_start line c.args.text.now c.new-calls.result.items c.new-calls.ensures.items
    (c.in-Err.ensures.bad_line line (as_err c.in-Err.fault (BadLine line) bad) [])
