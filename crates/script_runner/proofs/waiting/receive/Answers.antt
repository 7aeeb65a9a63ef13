use Rattle.std.proofs.Common.{◌∙◌, ap, Ok, Option, inr, refl, arith}
use Rattle.mq_model.specs.declared.entries.Received.{Received}
use Rattle.mq.proofs.Collecting.{receive-waited}
use Rattle.mq.proofs.Fitting.{receive-fits}
use Rattle.script_runner.proofs.AtOnce.{receive-done, receive-refused, receive-starts}
use Rattle.script_runner.proofs.Blocking.{receive-blocks}
use Rattle.script_runner.proofs.waiting.receive.Goals as goal

pub returns-in-Some-Got-clause-call : goal.returns-in-Some-Got-clause-call
returns-in-Some-Got-clause-call g c =
    let waits = c.make.ensures.waits (c.in-Ok-None.is ∙ ap (λ (o : Option Received). Ok o)
    c.in-Ok-None.field-0-is) in
    let start = receive-starts c.args.call _ _ _ c.requires.receive
    (rw c.in-Ok-None.field-0-is at c.in-Ok-None.ensures.call) in
    record {
      result = Ok c.in-Some-Got.received;
      called = inr (receive-waited c.requires.receive start waits.call
          (rw c.in-Some-Got.field-0-is at c.in-Some-Got.ensures.some));
      outcome = refl;
    }

pub returns-in-None-clause-waits : goal.returns-in-None-clause-waits
returns-in-None-clause-waits g c =
    let waits = c.make.ensures.waits (c.in-Ok-None.is ∙ ap (λ (o : Option Received). Ok o)
    c.in-Ok-None.field-0-is) in
    receive-blocks (receive-starts c.args.call _ _ _ c.requires.receive
    (rw c.in-Ok-None.field-0-is at c.in-Ok-None.ensures.call)) waits c.in-None.ensures.none

pub returns-in-Ok-Some-clause-call : goal.returns-in-Ok-Some-clause-call
returns-in-Ok-Some-clause-call g c =
    receive-done (receive-starts c.args.call _ _ _ c.requires.receive
    (rw c.in-Ok-Some.field-0-is at c.in-Ok-Some.ensures.call))

pub returns-in-Ok-Some-clause-message : goal.returns-in-Ok-Some-clause-message
returns-in-Ok-Some-clause-message g c = grind (arith, receive-fits, receive-starts)

pub returns-in-Err-clause-call : goal.returns-in-Err-clause-call
returns-in-Err-clause-call g c =
    receive-refused (receive-starts c.args.call _ _ _ c.requires.receive c.in-Err.ensures.call)
