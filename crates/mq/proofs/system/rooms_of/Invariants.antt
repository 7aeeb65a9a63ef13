use Rattle.std.proofs.Common.{◌≡◌, ◌<◌, ℕ, Some, slice_get, length}
use Rattle.mq_state.specs.Buffers.{waiting_room}
use Rattle.mq.proofs.system.rooms_of.Given as goal

abbrev pub invariant-loop-process : goal.invariant-loop-process
invariant-loop-process l = record {
  many : length l.rooms ≡ 33;
  below : (p : ℕ) → p < l.process → slice_get l.rooms p ≡ Some (waiting_room l.books.records p);
}
