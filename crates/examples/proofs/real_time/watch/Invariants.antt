use Rattle.std.proofs.Common.{◌≡◌}
use Rattle.mq.specs.Calls.{IsFree}
use Rattle.examples.proofs.real_time.watch.Given as goal

abbrev pub invariant-reports : goal.invariant-reports
invariant-reports g l = record {
  made : l.watchdog.lock ≡ l.initial.watchdog.lock;
  free : IsFree l.watchdog;
}
