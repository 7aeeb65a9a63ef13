use Rattle.std.proofs.Common.{length}
use Rattle.script_runner.proofs.meeting.+all_find_blocked.Given as goal

abbrev pub decreases-all_find_blocked : goal.decreases-all_find_blocked
decreases-all_find_blocked g l = length l.processes.now
