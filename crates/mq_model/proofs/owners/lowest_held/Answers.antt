use Rattle.std.proofs.Common.{is_some, sym, arith}
use Rattle.mq_model.specs.Owners.{held_in}
use Rattle.mq_model.proofs.LowestFree.{first-Some, first-None}
use Rattle.mq_model.proofs.owners.lowest_held.Goals as goal

pub returns-then-is_some : goal.returns-then-is_some
returns-then-is_some c =
    sym (first-Some (λ d. is_some (held_in c.args.owners.now c.args.p d)) c.loop-d.d
    c.loop-d-test.true (rw (← c.held.ensures) (sym c.if-is_some.ensures)) c.loop-d.invariant)

pub returns : goal.returns
returns c = sym (first-None (λ d. is_some (held_in c.args.owners.now c.args.p d))
    (λ e lt. c.loop-d.invariant e (omega (arith, lt))))
