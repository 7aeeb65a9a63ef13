use Rattle.std.proofs.Common.{◌<◌, ap, ◌∙◌, subst, sym}
use Rattle.lamport_core.specs.State.{IsProcess, run}
use Rattle.lamport_progress.proofs.Measure.{measure}
use Rattle.lamport_progress.proofs.Leader.{led_start, led_step, enabled_lowers}
use Rattle.lamport_progress.proofs.way_inside.Goals as goal

pub way-init : goal.way-init
way-init c = led_start _ _ _ _ c.requires.some c.requires.processes
    (c.run.ensures.state ∙ ap (λ m. run m.state c.args.schedule.now) c.in_ok-world.ensures.begun)
    c.new-steps.ensures.items

pub way-smaller : goal.way-smaller
way-smaller c = let l = c.way.invariant in
    subst (λ v. measure v < measure c.way.world.state) (sym (ap (λ m. m.state) c.step.ensures.step))
    (enabled_lowers _ _ _ l.sound (subst (λ k. IsProcess k c.find_enabled-i.result) l.sound.counts
    c.find_enabled-i.ensures.process) (c.is_occupied.ensures.no c.way-test.true)
    c.find_enabled-i.ensures.enabled)

pub way-preserved : goal.way-preserved
way-preserved c = led_step _ _ _ _ _ _ _ c.way.invariant (c.is_occupied.ensures.no c.way-test.true)
    c.find_enabled-i.ensures.process c.find_enabled-i.ensures.enabled
    (ap (λ m. m.state) c.step.ensures.step) c.in_ok-push.ensures.items
