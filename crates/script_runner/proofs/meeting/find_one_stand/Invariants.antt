use Rattle.std.proofs.Common.{◌≡◌, true}
use Rattle.script_runner.specs.Meeting.{AllLook, MeetBlocked}
use Rattle.script_runner.proofs.meeting.find_one_stand.Given as goal

-- the last question, and whether all got the same answer
abbrev pub invariant-questions : goal.invariant-questions
invariant-questions g l = record {
  can : (goal.iterator-questions g).can_next l.iterator';
  ends : (goal.iterator-questions g).is_finite l.iterator';
  looked : AllLook l.fn.processes l.processes;
  agree : l.agree ≡ true → MeetBlocked l.blocked l.fn.processes l.processes;
}
