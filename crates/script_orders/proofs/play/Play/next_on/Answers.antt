use Rattle.std.proofs.Common.{◌<◌, ◌+◌, length, ap, arith, subst, List, IfSome}
use Rattle.script_orders.specs.Persistence.{StartsOn}
use Rattle.script_orders.specs.declared.plan.Planned.{Planned}
use Rattle.script_orders.specs.PlayModel.{shown}
use Rattle.script_orders.specs.Stage.{Stage}
use Rattle.script_orders.proofs.Turning.{element-is}
use Rattle.script_orders.proofs.UsedAlone.{next-on}
use Rattle.script_orders.proofs.play.Play.next_on.Goals as goal

pub returns : goal.returns
returns c =
    let s = shown c.self.inside in
    let count = ap (λ (t : Stage). length t.programs) c.self.view_is in
    let below : c.args.index < length s.programs = omega (arith, count, c.requires) in
    let seated : c.args.index < length s.seats = omega (arith, below, c.self.invariant.count) in
    rw (← c.self.view_is)
    (next-on s c.args.index c.index-2.result.now c.index.result.now c.starts_on.result
    (element-is s.programs c.args.index c.index-2.result.now below c.index-2.ensures)
    (element-is s.seats c.args.index c.index.result.now seated c.index.ensures)
    (subst (λ (lines : List Planned). IfSome c.starts_on.result
    (StartsOn s.past s.phase (c.args.index + 1) c.index.result.now lines)) c.deref.ensures.value
    c.starts_on.ensures))
