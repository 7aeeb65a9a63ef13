use Rattle.std.proofs.Common.{arith}
use Rattle.script_runner.proofs.Agreeing.{look-made, looks-later, stand-later}
use Rattle.script_runner.proofs.meeting.find_one_stand.Goals as goal

pub find_as_blocked-agree-requires-in-questions : goal.find_as_blocked-agree-requires-in-questions
find_as_blocked-agree-requires-in-questions g c = look-made c.args.mq.now c.args.processes.now
    c.questions.processes c.questions.invariant.looked c.requires

pub questions-preserved : goal.questions-preserved
questions-preserved g c = grind (arith, looks-later, stand-later)
