use Rattle.std.proofs.Common.{◌≡◌, ◌∙◌, Some, sym, ap, refl, subst, arith}
use Rattle.mq_model.specs.Record.{Record, Past, record_at}
use Rattle.mq_model.proofs.Prefixes.{first-all, record_at-of_first}
use Rattle.mq_state.specs.Replays.{IsCause}
use Rattle.mq_state.proofs.Replaying.{departs}
use Rattle.mq_state.proofs.replay.follow_all.Goals as goal

pub returns-in-Some-clause-misfit : goal.returns-in-Some-clause-misfit
returns-in-Some-clause-misfit c =
    let past = c.args.journal.now.records in
    let r : Record = record { entry = c.record.result.0; payload = c.record.result.1.now } in
    let lt = c.loop-place-test.true in
    let end = c.len-place-end.ensures.count in
    let why = subst (λ (xs : Past). IsCause xs r c.in-Some.cause) c.first-past.ensures.records
    c.in-Some.ensures.cause in
    departs past c.loop-place.place r c.in-Some.cause (omega (arith, lt, end)) c.record.ensures
    c.loop-place.invariant.tables.legal why

pub returns-then-entry-processes-clause-misfit : goal.returns-then-entry-processes-clause-misfit
returns-then-entry-processes-clause-misfit c =
    let past = c.args.journal.now.records in
    let k = c.loop-place.place in
    let r : Record = record { entry = c.record.result.0; payload = c.record.result.1.now } in
    let lt = c.loop-place-test.true in
    let end = c.len-place-end.ensures.count in
    let at : record_at past k ≡ Some r = ap (λ (xs : Past). record_at xs k)
    (sym (first-all past _ refl)) ∙ record_at-of_first past _ k r c.record.ensures
    (omega (arith, lt, end)) (omega arith) in
    let above = c.if-entry-processes.true in
    let count = c.processes.ensures in
    let same = c.loop-place.invariant.n in
    (omega (arith, lt, end), rw at (omega (arith, above, count, same)))
