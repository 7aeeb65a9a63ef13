use Rattle.std.proofs.Common.{◌∙◌, ap, sym, arith}
use Rattle.mq_state.specs.Kept.{Kept}
use Rattle.mq.specs.Calls.{Entrant}
use Rattle.mq.proofs.Calling.{came-in, came-grows_by}
use Rattle.mq.proofs.Collecting.{collect-adds, collect-answered, collect-unanswered, came-collects, came-still}
use Rattle.mq.proofs.Fitting.{collect-fits}
use Rattle.mq.proofs.guard.Guard.collect.Goals as goal

pub depart-seat-requires-clause-grows : goal.depart-seat-requires-clause-grows
depart-seat-requires-clause-grows g c =
    let a = collect-adds c.begin-inside.result.1.books.records c.collect-outcome.new.self.records
    c.self.inside.number c.collect-outcome.result c.collect-outcome.ensures.some
    c.collect-outcome.ensures.entry (λ none. ap (λ (k : Kept). k.records)
    (c.collect-outcome.ensures.none none)) in
    came-grows_by a.added c.begin-inside.ensures.came a.is a.mine

pub returns-in-Some-clause-some : goal.returns-in-Some-clause-some
returns-in-Some-clause-some g c =
    let came = came-in c.begin-inside.ensures.came (ap (λ (e : Entrant). e.process) c.self.view_is)
    c.requires.made in
    let a = collect-answered c.begin-inside.result.1.books.records
    c.collect-outcome.new.self.records c.self.inside.number c.collect-outcome.result
    c.in-Some.outcome c.collect-outcome.ensures.some c.collect-outcome.ensures.entry
    c.in-Some.is in
    rw (c.departed_of.ensures, c.depart-seat.ensures.left) (came-collects came c.requires.made a
    (sym c.in-Some.is ∙ c.collect-outcome.ensures.value) c.collect-outcome.ensures.buffer
    c.depart-seat.ensures.legal)

pub returns-in-None-clause-none : goal.returns-in-None-clause-none
returns-in-None-clause-none g c =
    let came = came-in c.begin-inside.ensures.came (ap (λ (e : Entrant). e.process) c.self.view_is)
    c.requires.made in
    let same = ap (λ (k : Kept). k.records) (c.collect-outcome.ensures.none c.in-None.is) in
    rw (c.departed_of-in-None.ensures, c.depart-seat.ensures.left)
    (came-still came c.requires.made same
    (collect-unanswered c.begin-inside.result.1.books.records c.self.inside.number
    c.collect-outcome.result c.collect-outcome.ensures.some c.in-None.is)
    c.depart-seat.ensures.legal)

pub returns-in-Some-clause-fits : goal.returns-in-Some-clause-fits
returns-in-Some-clause-fits g c = grind (arith, collect-fits)
