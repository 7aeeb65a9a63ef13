use Rattle.std.proofs.Common.{List, ap, sym, ◌∙◌}
use Rattle.mq_state.specs.QueueShown.{QueueShown}
use Rattle.mq_state.specs.Queues.{queue_in}
use Rattle.mq_state.proofs.Reachable.{kept-forgotten}
use Rattle.mq_state.proofs.tables.Tables.forget.Goals as goal

pub returns-in-None-clause-kept : goal.returns-in-None-clause-kept
returns-in-None-clause-kept c =
    let told = c.forget.ensures in
    kept-forgotten c.args.journal.now c.forget.new.self c.args.self.now c.args.q c.requires
    (ap (λ (queues : List QueueShown). queue_in queues c.args.q) (sym c.deref.ensures.value) ∙
    sym c.in-None.ensures)
    told.records told.entry_room told.byte_room told.stored told.keeps
