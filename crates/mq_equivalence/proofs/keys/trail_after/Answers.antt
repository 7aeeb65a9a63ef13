use Rattle.mq_model.specs.Record.{Record}
use Rattle.mq_equivalence.proofs.Replaying.{goes-on, never-stops}
use Rattle.mq_equivalence.proofs.keys.trail_after.Goals as goal

pub unreachable-requires : goal.unreachable-requires
unreachable-requires c =
    let r : Record = record { entry = c.record.result.0; payload = c.record.result.1.now } in
    never-stops c.args.journal.now.records c.loop-place.trail c.loop-place.place r c.requires
    c.loop-place.invariant c.record.ensures (c.in_ok-make.ensures.none c.if-not-branch.true)

pub loop-place-preserved : goal.loop-place-preserved
loop-place-preserved c =
    let r : Record = record { entry = c.record.result.0; payload = c.record.result.1.now } in
    goes-on c.args.journal.now.records c.loop-place.trail c.make.new.self c.loop-place.place r
    c.requires c.loop-place.invariant c.record.ensures
    (c.in_ok-make.ensures.made c.if-not-branch.false)
