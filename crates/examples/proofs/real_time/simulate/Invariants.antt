use Rattle.std.proofs.Common.{◌≡◌}
use Rattle.mq.specs.Calls.{IsFree}
use Rattle.examples.proofs.real_time.simulate.Given as goal

abbrev pub invariant-events : goal.invariant-events
invariant-events g l = record {
  control : (l.control.lock ≡ l.initial.control.lock) × IsFree l.control;
  sensor : (l.sensor.lock ≡ l.initial.sensor.lock) × IsFree l.sensor;
  logger : (l.logger.lock ≡ l.initial.logger.lock) × IsFree l.logger;
  watchdog : (l.watchdog.lock ≡ l.initial.watchdog.lock) × IsFree l.watchdog;
}
