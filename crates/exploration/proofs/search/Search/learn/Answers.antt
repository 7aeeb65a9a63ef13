use Rattle.std.proofs.Common.{◌≡◌, true, length, drop, arith}
use Rattle.exploration.specs.Shown.{Shows}
use Rattle.exploration.proofs.Opening.{shows-take}
use Rattle.exploration.proofs.search.Search.learn.Goals as goal

pub returns-clause-open : goal.returns-clause-open
returns-clause-open c = λ could opened leads shows.
    let path = c.args.self.now.path.items in
    let slice = c.as_slice-steps.result.now in
    let is : c.takes.result ≡ true = cc in
    let at : c.len-asked.result ≡ length path = omega arith in
    let next : Shows could path (drop (length path) slice) =
    rw c.deref.ensures.value at ((c.takes.ensures is).1 could
    (rw c.as_slice-steps.ensures.value shows)) in
    c.in_ok-add_steps.ensures.open could opened leads
    (rw at (shows-take could _ path _ (shows-take could _ path (drop (length path) slice) next)))
