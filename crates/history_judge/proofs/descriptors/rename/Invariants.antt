use Rattle.std.proofs.Common.{◌≡◌, ◌++◌, length}
use Rattle.std.specs.Vec.Iter.{into_iter_items, into_iter_len}
use Rattle.history_judge.specs.Descriptors.{no_numbers, renamed}
use Rattle.history_judge.proofs.descriptors.rename.Given as goal

abbrev pub invariant-loop-operation : goal.invariant-loop-operation
invariant-loop-operation l = record {
  left : into_iter_len l.operation-iterator ≡ length (into_iter_items l.operation-iterator);
  own : l.own.items ++ renamed l.numbers (into_iter_items l.operation-iterator) ≡
      renamed no_numbers l.fn.operations.items;
}
