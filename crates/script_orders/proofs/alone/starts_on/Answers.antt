use Rattle.std.proofs.Common.{◌≡◌, ◌==◌, true, Some, slice_get, subst, rules, ℕ, eq-eqb}
use Rattle.script_orders.proofs.Turning.{element-is}
use Rattle.script_orders.proofs.UsedAlone.{starts-on}
use Rattle.script_orders.proofs.alone.starts_on.Goals as goal

pub returns-in-Call : goal.returns-in-Call
returns-in-Call c =
    let next = c.index-program-begun.result in
    let begun = c.begun-begun.result in
    let line : slice_get c.args.program.now begun ≡ Some next = element-is c.args.program.now begun
    next c.if-begun-program.false c.index-program-begun.is in
    let there : slice_get c.args.program.now c.args.seat.now.begun ≡ Some next =
    subst (λ (n : ℕ). slice_get c.args.program.now n ≡ Some next) c.begun-begun.ensures line in
    let now : (next.phase == c.args.phase) ≡ true =
    eq-eqb next.phase c.args.phase c.if-next-phase.false in
    starts-on c.args.trail.now c.args.phase c.args.p c.args.seat.now c.args.program.now next
    c.in-Call.call c.transfer_on.result there now c.in-Call.is
    c.transfer_on.ensures.transfers (search rules) c.transfer_on.ensures.on
    c.transfer_on.ensures.unregistered
