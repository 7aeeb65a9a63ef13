use Rattle.std.proofs.Common.{rules, arith, ◌≡◌, ◌<◌, ◌+◌, ◌∙◌, length, ap}
use Rattle.std.proofs.lemmas.Bool.Decides.{nat_tests}
use Rattle.journal_format.proofs.Splitting.{stops_short}
use Rattle.journal_format.proofs.text.whole.Goals as goal

pub returns-else-is_empty-clause-bad_line : goal.returns-else-is_empty-clause-bad_line
returns-else-is_empty-clause-bad_line c = λ line is.
    let records = c.args.journal.records in
    let number : line ≡ c.len-len.result + 1 = search (rules, is) in
    let some : 0 < length c.args.rest.now = grind (arith, nat_tests) in
    stops_short line c.args.rest.now records c.requires.fits
    (number ∙ ap (λ n. n + 1) c.len-len.ensures.count) some c.requires.rest
