use Rattle.std.proofs.Common.{subst, arith}
use Rattle.mq_model.specs.Record.{Record, Past}
use Rattle.mq_state.specs.Replays.{IsCause, IsDeparture}
use Rattle.mq_state.proofs.Replaying.{departs, not-legal}
use Rattle.mq_state.proofs.replay.replay.Goals as goal

pub returns-in-Some : goal.returns-in-Some
returns-in-Some c =
    let past = c.args.journal.now.records in
    let r : Record = record { entry = c.record.result.0; payload = c.record.result.1.now } in
    let lt = c.loop-place-test.true in
    let end = c.len-place-end.ensures.count in
    let why = subst (λ (xs : Past). IsCause xs r c.in-Some.cause) c.first-past.ensures.records
    c.in-Some.ensures.cause in
    let departure : IsDeparture past (record {
      place = c.loop-place.place;
      cause = c.in-Some.cause;
    }) = departs past c.loop-place.place r c.in-Some.cause
    (omega (arith, lt, end)) c.record.ensures c.loop-place.invariant.tables.legal why in
    record {
      legal = (λ e. absurd (cc), λ legal. absurd (not-legal past _ departure legal));
      departure = departure;
    }
