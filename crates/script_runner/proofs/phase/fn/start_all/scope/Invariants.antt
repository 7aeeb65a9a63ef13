use Rattle.std.proofs.Common.{◌≡◌, ◌++◌, length}
use Rattle.std.specs.Vec.Iter.{into_iter_items, into_iter_len}
use Rattle.script_runner.specs.Members.{AllHaveShares}
use Rattle.script_runner.specs.Phase.{AreReady}
use Rattle.script_runner.proofs.phase.fn.start_all.scope.Given as goal

abbrev pub invariant-loop-share : goal.invariant-loop-share
invariant-loop-share g l = record {
  all : l.yielded ++ into_iter_items l.share-iterator ≡ into_iter_items l.initial.share-iterator;
  left : into_iter_len l.share-iterator ≡ length (into_iter_items l.share-iterator);
  ready : AreReady l.mq.now (into_iter_items l.share-iterator);
  members : AllHaveShares l.yielded l.members.items;
}
