use Rattle.std.proofs.Common.{◌≡◌, Some, None, vec_capacity, rules}
use Rattle.mq_slots.specs.Held.{Held}
use Rattle.mq_state.specs.Pool.{PoolWithin}
use Rattle.mq_state.proofs.Pooling.{pool-fresh, pool-within}
use Rattle.mq_state.proofs.tables.Tables.note_queues.Goals as goal

pub returns-in-Some-clause-pool : goal.returns-in-Some-clause-pool
returns-in-Some-clause-pool g pooled =
    let t = g.args.self.now in
    let o : Held = g.in-Some.slots in
    let some : g.args.fresh ≡ Some o = g.in-Some.is in
    let with_one : PoolWithin t.bounds (Some o) t.queues.items t.spares.items
    (vec_capacity t.queues) (vec_capacity t.spares) = rw some at pooled in
    pool-within t.bounds (Some o) None t.queues.items g.add.new.queues.items t.spares.items
    g.note-found.new.spares.items (vec_capacity t.queues) (vec_capacity t.spares)
    (vec_capacity g.add.new.queues) (vec_capacity g.note-found.new.spares)
    (λ w. pool-fresh g.note-found.new.queues.items g.add.new.queues.items
    g.note-found.new.spares.items g.args.here g.attributes_given.result o
    (vec_capacity g.note-found.new.queues) (vec_capacity g.add.new.queues)
    (vec_capacity g.note-found.new.spares) g.add.ensures.items g.add.ensures.capacity
    (g.note-found.ensures.pool 63 w.0, w.1))
    with_one

pub returns-in_default-clause-queues : goal.returns-in_default-clause-queues
returns-in_default-clause-queues g = search rules
