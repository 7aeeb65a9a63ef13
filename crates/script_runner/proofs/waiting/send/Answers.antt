use Rattle.std.proofs.Common.{Ok, inr, refl}
use Rattle.mq.proofs.Collecting.{send-waited}
use Rattle.script_runner.proofs.AtOnce.{send-done, send-refused, send-starts}
use Rattle.script_runner.proofs.Blocking.{send-blocks}
use Rattle.script_runner.proofs.waiting.send.Goals as goal

pub returns-in-Some-clause-call : goal.returns-in-Some-clause-call
returns-in-Some-clause-call g c = record {
  result = Ok tt;
  called = inr (send-waited (send-starts c.args.call _ _ _ c.requires.send
      (rw c.in-Ok-false.field-0-test at c.in-Ok-false.ensures.call)) c.in-Some.ensures.some);
  outcome = refl;
}

pub returns-in-None-clause-waits : goal.returns-in-None-clause-waits
returns-in-None-clause-waits g c =
    send-blocks (send-starts c.args.call _ _ _ c.requires.send
    (rw c.in-Ok-false.field-0-test at c.in-Ok-false.ensures.call))
    ((rw c.in-Ok-false.field-0-test at c.in-Ok-false.ensures.waits) refl) c.in-None.ensures.none

pub returns-in-Ok-true-clause-call : goal.returns-in-Ok-true-clause-call
returns-in-Ok-true-clause-call g c = send-done (send-starts c.args.call _ _ _ c.requires.send
    (rw c.in-Ok-true.field-0-test at c.in-Ok-true.ensures.call))

pub returns-in-Err-clause-call : goal.returns-in-Err-clause-call
returns-in-Err-clause-call g c = send-refused (send-starts c.args.call _ _ _ c.requires.send
    c.in-Err.ensures.call)
