use Rattle.std.proofs.Common.{rules, ◌≡◌, Ok, inr, false, []}
use Rattle.mq.specs.Calls.{Collects}
use Rattle.mq.proofs.Collecting.{send-waited}
use Rattle.mq.proofs.process.Process.send.Goals as goal

pub returns-in-Ok-false-clause-call : goal.returns-in-Ok-false-clause-call
returns-in-Ok-false-clause-call g c =
    let waits : c.make-departed.result.1 ≡ Ok false = search rules in
    let same : c.arrive-guard.result.process ≡ c.args.self.now = search rules in
    let start = rw (waits, same) at c.make-departed.ensures.call in
    let ends : Collects c.make-departed.result.0 c.await_outcome.new.self c.await_outcome.result []
    c.await_outcome.new.buf = search rules in
    inr (send-waited start ends)
