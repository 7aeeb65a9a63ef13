use Rattle.std.proofs.Common.{◌≡◌, true, false, Option, Some, None, is_some, is_none, refl, sym, arith}
use Rattle.mq_model.specs.Owners.{held_in}
use Rattle.mq_model.proofs.LowestFree.{first-Some, first-None}
use Rattle.mq_model.proofs.owners.free_number.Goals as goal

none_of : {X : Type 0} (o : Option X) → is_some o ≡ false → is_none o ≡ true
none_of None h = refl
none_of (Some x) h = absurd (cc)

pub returns-then-is_none : goal.returns-then-is_none
returns-then-is_none c =
    let free = none_of c.held.result c.if-is_none.ensures in
    sym (first-Some (λ d. is_none (held_in c.args.owners.now c.args.p d)) c.loop-d.d
    c.loop-d-test.true (rw (← c.held.ensures) free) c.loop-d.invariant)

pub returns : goal.returns
returns c = sym (first-None (λ d. is_none (held_in c.args.owners.now c.args.p d))
    (λ e lt. c.loop-d.invariant e (omega (arith, lt))))
