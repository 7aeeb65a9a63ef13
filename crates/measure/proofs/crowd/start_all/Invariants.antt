use Rattle.std.proofs.Common.{◌≡◌, length}
use Rattle.std.specs.List.{All}
use Rattle.std.specs.Vec.Iter.{into_iter_items, into_iter_len}
use Rattle.measure.specs.Ready.{IsReady}
use Rattle.measure.proofs.crowd.start_all.Given as goal

abbrev pub invariant-loop-process : goal.invariant-loop-process
invariant-loop-process g l = record {
  left : into_iter_len l.process-iterator ≡ length (into_iter_items l.process-iterator);
  ready : All (IsReady l.mq) (into_iter_items l.process-iterator);
}
