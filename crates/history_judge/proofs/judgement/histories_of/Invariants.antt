use Rattle.std.proofs.Common.{◌≡◌, ◌++◌, length}
use Rattle.std.specs.Vec.Iter.{into_iter_items, into_iter_len}
use Rattle.history_judge.proofs.Grouping.{AreOwn}
use Rattle.history_judge.proofs.judgement.histories_of.Given as goal

abbrev pub invariant-loop-operations : goal.invariant-loop-operations
invariant-loop-operations l = record {
  all : l.yielded ++ into_iter_items l.operations-iterator ≡
      into_iter_items l.initial.operations-iterator;
  left : into_iter_len l.operations-iterator ≡ length (into_iter_items l.operations-iterator);
  count : length l.histories.items ≡ length l.yielded;
  own : AreOwn l.fn.calls.items l.histories.items;
}
