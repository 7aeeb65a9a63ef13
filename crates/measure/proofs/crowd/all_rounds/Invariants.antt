use Rattle.measure.specs.Ready.{IsReady}
use Rattle.measure.proofs.crowd.all_rounds.Given as goal

abbrev pub invariant-loop : goal.invariant-loop
invariant-loop g l = IsReady l.mq l.process
