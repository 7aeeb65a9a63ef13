use Rattle.lamport_progress.proofs.Bound.{rounds_enter}
use Rattle.lamport_progress.proofs.Turns.{round_robin_enters}
use Rattle.lamport_progress.proofs.Delay.{delays}
use Rattle.lamport_progress.proofs.fair_rounds.Goals as goal

pub returns : goal.returns
returns c = record {
  enters = rounds_enter;
  round_robin = round_robin_enters;
  exact_for_two = delays;
}
