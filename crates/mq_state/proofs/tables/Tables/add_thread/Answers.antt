use Rattle.std.proofs.Common.{refl, arith}
use Rattle.mq_state.proofs.Raising.{raised-thread, notice-room-threads}
use Rattle.mq_state.proofs.tables.Tables.add_thread.Goals as goal

pub returns-clause-raised : goal.returns-clause-raised
returns-clause-raised c = record {
  tables = λ past are. raised-thread past c.args.self.now _ are c.requires.processes
      c.requires.few refl
      (grind arith) (grind arith) refl refl refl refl;
  notices = λ past entries are has p le. notice-room-threads _ entries c.args.self.now.n
      c.args.self.now.inboxes.items c.requires.processes has p;
  queues = refl;
  spares = refl;
  bounds = refl;
  waits = refl;
  more = omega arith;
}
