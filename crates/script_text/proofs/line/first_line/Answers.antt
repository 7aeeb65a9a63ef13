use Rattle.std.proofs.Common.{◌≡◌, Some, None, sym, ◌∙◌}
use Rattle.std.specs.List.{position}
use Rattle.script_text.proofs.Lines.{is_feed, lines_of-found, lines_of-none}
use Rattle.script_text.proofs.line.first_line.Goals as goal

pub returns-in-Some-clause-lines : goal.returns-in-Some-clause-lines
returns-in-Some-clause-lines c =
    let place : position is_feed c.args.text.now ≡ Some c.in-Some.at = sym c.first_feed.ensures ∙
    c.in-Some.is in
    let found = lines_of-found c.args.text.now c.in-Some.at place in
    rw (c.split_at.ensures.front, c.split_at.ensures.back) found

pub returns-in-None-clause-lines : goal.returns-in-None-clause-lines
returns-in-None-clause-lines c =
    let place : position is_feed c.args.text.now ≡ None = sym c.first_feed.ensures ∙ c.in-None.is in
    lines_of-none c.args.text.now c.requires place
