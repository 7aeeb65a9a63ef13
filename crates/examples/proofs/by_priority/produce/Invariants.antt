use Rattle.std.proofs.Common.{◌≡◌}
use Rattle.mq.specs.Calls.{IsFree}
use Rattle.examples.proofs.by_priority.produce.Given as goal

abbrev pub invariant-jobs : goal.invariant-jobs
invariant-jobs g l = record {
  made : l.process.lock ≡ l.initial.process.lock;
  free : IsFree l.process;
}
