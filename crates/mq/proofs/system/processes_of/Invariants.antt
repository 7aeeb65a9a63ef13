use Rattle.std.proofs.Common.{◌≡◌, ◌≤◌, ◌+◌, ◌++◌, length, map, vec_len, vec_capacity}
use Rattle.std.specs.List.{All}
use Rattle.std.specs.Vec.Iter.{into_iter_items, into_iter_len}
use Rattle.mq.specs.Calls.{IsRoomOf}
use Rattle.mq.proofs.system.processes_of.Given as goal

abbrev pub invariant-seats : goal.invariant-seats
invariant-seats g l = record {
  all : l.yielded ++ into_iter_items l.seat-iterator ≡ into_iter_items l.initial.seat-iterator;
  left : into_iter_len l.seat-iterator ≡ length (into_iter_items l.seat-iterator);
  made : l.processes.items ≡ map g.L.Lock.ticket l.yielded;
  room : vec_len l.processes + into_iter_len l.seat-iterator ≤ vec_capacity l.processes;
  waits : All (λ s. IsRoomOf l.rooms (g.L.Lock.ticket s)) (into_iter_items l.seat-iterator);
}
