use Rattle.std.proofs.Common.{◌≡◌, [], append-nil, arith, sym}
use Rattle.journal_views.specs.Parts.{part}
use Rattle.journal_views.specs.State.{at}
use Rattle.journal_views.proofs.Told.{at-beyond, at-here}
use Rattle.journal_views.proofs.Lists.{lists}
use Rattle.journal_views.proofs.state.push_part.Goals as goal

pub returns-then-place-len : goal.returns-then-place-len
returns-then-place-len c =
    let none : at (part c.args.kind c.args.form) c.args.journal.now.records c.args.place ≡ [] =
    at-beyond (part c.args.kind c.args.form) c.args.journal.now.records c.args.place
    (omega arith) in
    rw none (sym (append-nil c.args.text.now.items))

pub returns : goal.returns
returns c =
    let here = at-here (part c.args.kind c.args.form) c.args.journal.now.records c.args.place _
    c.record.ensures (omega arith) in
    rw here (grind (arith, lists))
