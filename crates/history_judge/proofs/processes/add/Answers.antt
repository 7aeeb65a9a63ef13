use Rattle.std.proofs.Common.{◌<◌, length, ℕ, ◌-◌, arith, refl}
use Rattle.std.proofs.lemmas.Option.{slice_get_read}
use Rattle.history_judge.proofs.Grouping.{by_process-stranger, by_process-more}
use Rattle.history_judge.proofs.processes.add.Goals.{then-process-eq0-via-then-process-eq0, then-process-eq0-via-else-process-eq0+then-process-len}
use Rattle.history_judge.proofs.processes.add.Goals as goal

pub returns-then-process-eq0-clause-each : goal.returns-then-process-eq0-clause-each
returns-then-process-eq0-clause-each c before grouped =
    by_process-stranger before c.args.histories.now.items c.args.called
    (λ index within.
    elim c.then-process-eq0.branch [
      | then-process-eq0-via-then-process-eq0 w ↦ (λ e. omega (arith, e))
      | then-process-eq0-via-else-process-eq0+then-process-len w ↦ (λ e. omega (arith, e))
    ]) grouped

pub returns-clause-each : goal.returns-clause-each
returns-clause-each c before grouped =
    let at : ℕ = c.args.called.process - 1 in
    let within : at < length c.args.histories.now.items = omega arith in
    by_process-more before c.args.histories.now.items c.args.called at
    c.index_mut-operations.result.now c.push.new.self
    (slice_get_read c.args.histories.now.items (length c.args.histories.now.items) at
    c.index_mut-operations.result.now refl within c.index_mut-operations.ensures.value)
    (omega arith) c.in_ok-push.ensures.items grouped
