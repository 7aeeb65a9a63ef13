use Rattle.std.proofs.Common.{◌≡◌, ◌+◌, ◌∙◌, ◌++◌, ◌∷◌, List, [], true, length, length-append, arith, rules, ap, subst, sym, append_assoc}
use Rattle.std.proofs.lemmas.Bool.Decides.{nat_tests}
use Rattle.journal_format.specs.Text.{has_feed}
use Rattle.journal_format.proofs.Splitting.{first-whole}
use Rattle.history_judge.specs.Fitting.{AllFit}
use Rattle.history_judge.specs.Reading.{IsNoLine}
use Rattle.history_judge.specs.Text.{history_text, line_text}
use Rattle.history_judge.specs.declared.line.Called.{Called}
use Rattle.history_judge.proofs.Lines.{stops_in}
use Rattle.history_judge.proofs.Whole.{fits-more, next_line}
use Rattle.history_judge.proofs.text.read_lines.Goals as goal

pub lines-preserved : goal.lines-preserved
lines-preserved c =
    let was = c.lines.invariant in
    let calls = c.lines.calls.items in
    let rest = c.lines.rest.now in
    let first = c.first_line.result.0.now in
    let others = c.first_line.result.1.now in
    let text = history_text c.args.calls.now.items ++ c.args.text.now in
    let line : first ≡ line_text c.in-Some.called =
    rw c.in-Some.is at c.in_ok-called.ensures.found in
    let pushed : c.add.new.calls.items ≡ calls ++ c.in-Some.called ∷ [] = c.in_ok-add.ensures in
    let next = next_line text rest first others calls c.in-Some.called was.text
    (first-whole rest first others c.first_line.ensures.lines) line in
    record {
      text = next ∙ ap (λ (cs : List Called). history_text cs ++ others) (sym pushed);
      fits = subst (λ (cs : List Called). AllFit cs) (sym pushed)
          (fits-more calls c.in-Some.called was.fits
          (rw c.in-Some.is at c.in_ok-called.ensures.fits));
      count = omega (
        arith,
        ap length pushed,
        length-append calls (c.in-Some.called ∷ []),
        was.count,
      );
    }

pub returns-in_default-clause-bad_line : goal.returns-in_default-clause-bad_line
returns-in_default-clause-bad_line c = λ line is more.
    let was = c.lines.invariant in
    let text = history_text c.args.calls.now.items ++ c.args.text.now in
    let none : IsNoLine c.first_line.result.0.now =
    rw c.in_default.is at c.in_ok-called.ensures.only in
    let count : c.len.result ≡ length c.lines.calls.items = search (rules, c.len.ensures) in
    let number : line ≡ c.len.result + 1 = search (rules, is) in
    let some : has_feed c.lines.rest.now ≡ true = grind (arith, nat_tests) in
    rw (append_assoc (history_text c.args.calls.now.items) c.args.text.now more) at
    (stops_in line text c.lines.rest.now c.first_line.result.0.now c.first_line.result.1.now more
    c.lines.calls.items
    was.text was.fits (number ∙ ap (λ n. n + 1) count) some c.first_line.ensures.lines none)
