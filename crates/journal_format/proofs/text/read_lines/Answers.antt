use Rattle.std.proofs.Common.{◌≡◌, ◌+◌, ◌∙◌, ◌++◌, ◌∷◌, List, ℕ, true, length, arith, rules, ap, append_assoc}
use Rattle.std.proofs.lemmas.Bool.Decides.{nat_tests}
use Rattle.mq_model.specs.Record.{Record, Past}
use Rattle.journal_format.specs.Fitting.{Fits}
use Rattle.journal_format.specs.JournalFault.{IsNoLine}
use Rattle.journal_format.specs.Text.{has_feed, journal_text, line_text}
use Rattle.journal_format.proofs.Splitting.{allfit_next, next_line, stops_in}
use Rattle.journal_format.proofs.text.read_lines.Goals as goal

pub lines-preserved : goal.lines-preserved
lines-preserved c =
    let was = c.lines.invariant in
    let past = c.lines.journal.records in
    let new = c.add_entry.new.journal.records in
    let r : Record = record { entry = c.in-Some.entry; payload = c.in-Some.payload.items } in
    let at : List ℕ → Past = λ p. record { entry = c.in-Some.entry; payload = p } ∷ past in
    let pushed : new ≡ r ∷ past = c.in_ok-add_entry.ensures.records ∙
    ap at c.as_slice.ensures.value in
    let fits : Fits r = rw c.as_slice.ensures.value at c.in_ok-add_entry.ensures.fits in
    let line : c.first_line.result.0.now ≡ line_text c.len.result r =
    rw c.in-Some.is at c.in_ok-entry.ensures in
    record {
      text = next_line (journal_text c.args.journal.now.records ++ c.args.text.now) c.lines.rest.now
          c.first_line.result.0.now c.first_line.result.1.now past new c.len.result r was.text
          c.first_line.ensures.lines line c.len.ensures.count pushed;
      fits = allfit_next past new r was.fits fits pushed;
      count = omega (arith, ap length pushed, was.count);
    }

pub returns-in_default-clause-bad_line : goal.returns-in_default-clause-bad_line
returns-in_default-clause-bad_line c = λ line is more.
    let was = c.lines.invariant in
    let text = journal_text c.args.journal.now.records ++ c.args.text.now in
    let none : IsNoLine c.len.result c.first_line.result.0.now =
    rw c.in_default.is at c.in_ok-entry.ensures in
    let count : c.len-in_default.result ≡ length c.lines.journal.records =
    c.len-in_default.ensures.count in
    let same : c.len.result ≡ c.len-in_default.result = omega arith in
    let number : line ≡ c.len.result + 1 = search (rules, is, same) in
    let some : has_feed c.lines.rest.now ≡ true = grind (arith, nat_tests) in
    rw (append_assoc (journal_text c.args.journal.now.records) c.args.text.now more) at
    (stops_in line c.len.result text c.lines.rest.now c.first_line.result.0.now
    c.first_line.result.1.now more c.lines.journal.records
    was.text was.fits c.len.ensures.count c.len.ensures.bound number some c.first_line.ensures.lines
    none)
