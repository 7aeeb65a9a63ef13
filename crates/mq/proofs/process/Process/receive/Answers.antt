use Rattle.std.proofs.Common.{rules, ◌≡◌, Ok, None, Some, inr, refl}
use Rattle.mq_state.specs.declared.collected.Collected.TheVariants.{Got}
use Rattle.mq.specs.Calls.{Collects}
use Rattle.mq.proofs.Collecting.{receive-waited}
use Rattle.mq.proofs.Fitting.{receive-fits}
use Rattle.mq.proofs.process.Process.receive.Goals as goal

pub returns-in-Ok-Some-clause-fits : goal.returns-in-Ok-Some-clause-fits
returns-in-Ok-Some-clause-fits g c =
    let fits = receive-fits c.make-departed.ensures.call (search rules) in
    let is : c.make-departed.result.1 ≡ Ok (Some c.in-Ok-Some.received) = search rules in
    rw is at fits

pub returns-in-Got-clause-call : goal.returns-in-Got-clause-call
returns-in-Got-clause-call g c =
    let none : c.make-departed.result.1 ≡ Ok None = search rules in
    let same : c.arrive-guard.result.process ≡ c.args.self.now = search rules in
    let waits = c.make-departed.ensures.waits none in
    let start = rw (none, same) at c.make-departed.ensures.call in
    let ends : Collects c.make-departed.result.0 c.await_outcome.new.self (Got c.in-Got.received)
    c.make-departed.new.buf c.await_outcome.new.buf = search rules in
    inr (receive-waited refl start waits.call ends)
