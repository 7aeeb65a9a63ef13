use Rattle.std.proofs.Common.{◌∙◌, sym, arith, ap}
use Rattle.mq.specs.Calls.{Entrant}
use Rattle.mq.proofs.Calling.{came-in, came-room, came-grows_by}
use Rattle.mq.proofs.Collecting.{room-waits, end-adds, collect-answered, withdrawn-wait, came-collects, came-withdraws, if-some, if-none}
use Rattle.mq.proofs.Fitting.{collect-fits}
use Rattle.mq.proofs.guard.Guard.end_wait.Goals as goal

pub depart-requires-clause-grows : goal.depart-requires-clause-grows
depart-requires-clause-grows g c =
    let came = came-in c.begin-inside.ensures.came (ap (λ (e : Entrant). e.process) c.self.view_is)
    c.requires.made in
    let waits = room-waits c.begin-inside.result.1.books.records c.self.inside.number
    (rw (came-room came) c.requires.wait) in
    let a = end-adds c.begin-inside.result.1.books.records c.end_wait-outcome.new.books.records
    c.self.inside.number c.args.now c.end_wait-outcome.result c.end_wait-outcome.ensures.some
    c.end_wait-outcome.ensures.entry c.end_wait-outcome.ensures.withdraws waits in
    came-grows_by a.added c.begin-inside.ensures.came a.is a.mine

pub returns-clause-some : goal.returns-clause-some
returns-clause-some g c = if-some _ c.end_wait-outcome.result (λ value is.
    let came = came-in c.begin-inside.ensures.came (ap (λ (e : Entrant). e.process) c.self.view_is)
    c.requires.made in
    let a = collect-answered c.begin-inside.result.1.books.records
    c.end_wait-outcome.new.books.records c.self.inside.number c.end_wait-outcome.result value
    c.end_wait-outcome.ensures.some c.end_wait-outcome.ensures.entry is in
    rw (c.departed_of.ensures, c.depart.ensures.left) (came-collects came c.requires.made a
    (sym is ∙ c.end_wait-outcome.ensures.value) c.end_wait-outcome.ensures.buffer
    c.depart.ensures.legal))

pub returns-clause-none : goal.returns-clause-none
returns-clause-none g c = if-none _ c.end_wait-outcome.result (λ none.
    let came = came-in c.begin-inside.ensures.came (ap (λ (e : Entrant). e.process) c.self.view_is)
    c.requires.made in
    let waits = room-waits c.begin-inside.result.1.books.records c.self.inside.number
    (rw (came-room came) c.requires.wait) in
    let x = withdrawn-wait c.begin-inside.result.1.books.records
    c.end_wait-outcome.new.books.records c.self.inside.number c.args.now waits
    (c.end_wait-outcome.ensures.withdraws none) in
    rw (c.departed_of.ensures, c.depart.ensures.left) (came-withdraws came c.requires.made x
    c.depart.ensures.legal))

pub returns-clause-fits : goal.returns-clause-fits
returns-clause-fits g c = grind (arith, collect-fits)
