use Rattle.std.proofs.Common.{◌≡◌, ◌<◌, ℕ, Some, slice_get, length}
use Rattle.mq_model.specs.Waits.{wait_deadline}
use Rattle.c_journals.proofs.resuming.deadlines_of.Given as goal

abbrev pub invariant-loop-process : goal.invariant-loop-process
invariant-loop-process l = record {
  many : length l.deadlines ≡ 33;
  below : (p : ℕ) → p < l.process →
      slice_get l.deadlines p ≡ Some (wait_deadline l.books.records p);
}
