use Rattle.std.proofs.lemmas.List.{take_all, take-append-le}
use Rattle.std.proofs.Common.{List, refl, arith}
use Rattle.std.proofs.lemmas.List.{length-map}
use Rattle.mq_state.specs.QueueShown.{QueueShown}
use Rattle.mq_state.specs.Queues.{changed, renewed, reregistered}
use Rattle.mq_state.proofs.Pooling.{pool-map, pool-kept, length-changed}
use Rattle.mq_state.proofs.queues.note.Goals as goal

pub returns-clause-pool : goal.returns-clause-pool
returns-clause-pool c = λ m pool.
    let lines : List QueueShown = changed (renewed c.args.moves.line)
    c.args.queues.now.items c.args.q in
    let longer = length-map lines (reregistered c.args.q c.args.here c.args.entry) in
    let noted = pool-map c.args.q c.args.here c.args.entry lines
    (pool-kept (renewed c.args.moves.line) (λ x. refl) c.args.queues.now.items c.args.q pool) in
    c.release.ensures.pool m (grind (arith, length-changed, take_all, take-append-le))
