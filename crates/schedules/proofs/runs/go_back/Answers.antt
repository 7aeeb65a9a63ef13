use Rattle.std.proofs.lemmas.Grind.{common_steps}
use Rattle.std.proofs.Common.{◌≡◌, ◌<◌, Some, length, get_or, ◌∙◌, arith}
use Rattle.std.proofs.lemmas.List.Elements.{All-push}
use Rattle.schedules.specs.Marks.{IsMark}
use Rattle.schedules.specs.declared.marks.Mark.{Mark}
use Rattle.schedules.proofs.Backing.{all-front, path-goes, path-further}
use Rattle.schedules.proofs.runs.go_back.Goals as goal
use Rattle.schedules.proofs.runs.go_back.Goals.{then-is_worth+in_ok-schedule+in_ok-saved+in_ok-push, else-is_worth}

pub loop-depth-init : goal.loop-depth-init
loop-depth-init g c = grind (arith, common_steps, all-front)

pub loop-depth-preserved : goal.loop-depth-preserved
loop-depth-preserved g c =
    let next = g.M.Machine.next in
    let start = g.M.Machine.start c.args.machine.now in
    let path = c.args.path.now in
    let depth = c.loop-depth.depth in
    let now = c.loop-depth.machine in
    let t = c.step.new.self in
    let IsMarkHere : Mark g.row.M-Saved.Denot →
    Type 0 = IsMark next g.M.Machine.start g.M.Machine.IsSaved start in
    let lt : depth < length path = omega arith in
    let step : next now (get_or path depth 0) ≡ Some t =
    path-goes next path depth start now t c.in_ok-_went._went lt c.requires.runs
    c.loop-depth.invariant.runs c.in_ok-_went.ensures.went c.in_ok-_went.ensures.none
    in
    record {
      runs = path-further next path depth start now t lt c.loop-depth.invariant.runs step;
      start = g.met.M.Machine.same_start now t (get_or path depth 0) step ∙
          c.loop-depth.invariant.start;
      marks = elim c.if-is_worth.branch [
        | then-is_worth+in_ok-schedule+in_ok-saved+in_ok-push w ↦
            rw (w.marks-is, w.in_ok-push.ensures.items)
            (All-push IsMarkHere c.loop-depth.marks.items _ c.loop-depth.invariant.marks
            (record {
              at = now;
              runs = rw w.in_ok-schedule.ensures.items
                  c.loop-depth.invariant.runs;
              same = c.loop-depth.invariant.start;
              saved = w.in_ok-saved.ensures;
            }))
        | else-is_worth w ↦ rw w.marks-is c.loop-depth.invariant.marks
      ];
    }
