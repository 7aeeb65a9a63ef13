use Rattle.std.proofs.Common.{◌≡◌, None}
use Rattle.mq_model.specs.Waits.{open_wait}
use Rattle.mq.specs.Calls.{Closing}
use Rattle.mq.proofs.Closings.{IsFrom}
use Rattle.mq.proofs.guard.exits.close_all.Given as goal

abbrev pub invariant-descriptors : goal.invariant-descriptors
invariant-descriptors l = record {
  n : l.books.n ≡ l.initial.books.n;
  bounds : l.books.bounds ≡ l.initial.books.bounds;
  stored : l.books.stored ≡ l.initial.books.stored;
  free : open_wait l.books.records l.p ≡ None;
  closing : Closing l.initial.books.bounds l.initial.books.records l.books.records l.p;
  from : IsFrom l.books.records l.p l.d;
}
