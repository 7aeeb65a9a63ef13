use Rattle.std.proofs.Common.{◌∙◌, ap}
use Rattle.schedules.specs.Marks.{last_of}
use Rattle.schedules.proofs.Removing.{none-is, removed}
use Rattle.schedules.proofs.marks.leave_others.Goals as goal

pub loop-marks-preserved : goal.loop-marks-preserved
loop-marks-preserved g c =
    let before = c.loop-marks.invariant in
    let none = none-is c.last_on.result _ c.loop-marks-test.ensures c.last_on.ensures.none in
    removed c.args.path.now c.args.marks.now.items c.loop-marks.marks.items c.pop.new.self.items
    before.0 c.pop.result c.if-is_none.ensures before.1 before.2 c.pop.ensures.items
    (λ mark last. none mark (ap last_of c.deref.ensures.value ∙ last))
