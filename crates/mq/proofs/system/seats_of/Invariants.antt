use Rattle.std.proofs.Common.{◌≡◌, ◌≤◌, ◌+◌, ◌++◌, length, map, vec_len, vec_capacity}
use Rattle.std.specs.Vec.Iter.{into_iter_items, into_iter_len}
use Rattle.mq.proofs.system.seats_of.Given as goal

abbrev pub invariant-processes : goal.invariant-processes
invariant-processes g l = record {
  all : l.yielded ++ into_iter_items l.process-iterator ≡
      into_iter_items l.initial.process-iterator;
  left : into_iter_len l.process-iterator ≡ length (into_iter_items l.process-iterator);
  made : map g.L.Lock.ticket l.seats.items ≡ l.yielded;
  room : vec_len l.seats + into_iter_len l.process-iterator ≤ vec_capacity l.seats;
}
