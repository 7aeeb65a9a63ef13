use Rattle.mq_state.specs.Queues.{reregistered}
use Rattle.mq_state.proofs.QueueLines.{map-untouched}
use Rattle.std.proofs.lemmas.List.Edits.{map_over_more}
use Rattle.std.proofs.Common.{ap, set, sym, ◌∙◌}
use Rattle.mq_state.proofs.queues.note_registrations.Goals as goal

pub returns-then-not-touches_registrations : goal.returns-then-not-touches_registrations
returns-then-not-touches_registrations c = map-untouched _ _ _ (c.touches_registrations.ensures.none
    c.if-not-touches_registrations.true) _

pub loop-i-preserved : goal.loop-i-preserved
loop-i-preserved c =
    let f = reregistered c.args.q c.args.here c.args.entry in
    ap (set c.loop-i.queues c.loop-i.i) (c.note_registration.ensures ∙
    ap f (sym c.index-queues-i.is)) ∙ map_over_more f _ _ _ _ c.loop-i-test.true
    c.loop-i.invariant c.index-queues-i.is
