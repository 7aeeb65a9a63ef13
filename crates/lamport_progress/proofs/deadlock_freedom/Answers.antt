use Rattle.lamport_progress.proofs.Work.{work, some_way, reach_sound}
use Rattle.lamport_progress.proofs.Access.{can_enter}
use Rattle.lamport_progress.proofs.Enabled.{no_dead_end}
use Rattle.lamport_progress.proofs.deadlock_freedom.Goals as goal

pub returns : goal.returns
returns c = record {
  no_dead_end = no_dead_end;
  no_livelock = λ n w is r. work n w is (reach_sound n w r);
  nobody_is_locked_out = can_enter;
  way_inside = λ n w some r. some_way n w some (reach_sound n w r);
}
