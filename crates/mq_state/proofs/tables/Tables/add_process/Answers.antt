use Rattle.std.proofs.Common.{refl, ◌+◌, ◌∙◌, ap, arith}
use Rattle.mq_state.proofs.Raising.{raised-process, notice-room-raised, last-own}
use Rattle.mq_state.proofs.tables.Tables.add_process.Goals as goal

pub returns-clause-raised : goal.returns-clause-raised
returns-clause-raised c = record {
  tables = λ past are. raised-process past c.args.self.now _ c.args.inbox are c.requires.few
      c.requires.inbox.0 refl
      (grind arith) (grind arith) (grind arith) c.push_reserved-4.ensures.items refl refl;
  notices = λ past entries are has p le.
      let own = last-own c.args.self.now.n (omega (arith, c.requires.few)) in
      let count = are.mirror.inbox_count ∙ ap (λ k. k + 1) own in
      let room = notice-room-raised _ entries c.args.self.now.n c.args.self.now.inboxes.items
      c.args.inbox c.requires.few count c.requires.inbox.1 has p le in
      rw c.push_reserved-4.ensures.items room;
  queues = refl;
  spares = refl;
  bounds = refl;
  waits = refl;
  more = omega arith;
}
