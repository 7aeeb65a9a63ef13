use Rattle.std.proofs.Common.{◌≡◌, None, arith}
use Rattle.mq_equivalence.specs.Views.{at, told}
use Rattle.mq_equivalence.proofs.Appends.{appends, at-beyond, at-here}
use Rattle.mq_equivalence.proofs.parts.push_told.Goals as goal

pub returns-then-place-len : goal.returns-then-place-len
returns-then-place-len c =
    let none : at told c.args.journal.now.records c.args.place ≡ None =
    at-beyond told c.args.journal.now.records c.args.place (omega arith) in
    rw none c.push_number.ensures

pub returns : goal.returns
returns c =
    let here = at-here told c.args.journal.now.records c.args.place _ c.record.ensures
    (omega arith) in
    rw here (grind (arith, appends))
