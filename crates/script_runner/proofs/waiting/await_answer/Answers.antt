use Rattle.mq.proofs.Others.{call-grown}
use Rattle.std.proofs.Common.{arith}
use Rattle.mq.proofs.Collecting.{collects-later}
use Rattle.script_runner.proofs.Blocking.{room-later}
use Rattle.script_runner.proofs.waiting.await_answer.Goals as goal

pub collect-requires-clause-wait : goal.collect-requires-clause-wait
collect-requires-clause-wait g c = rw (room-later c.look_for_answer.ensures.calls) c.requires.wait

pub collect-requires-clause-room : goal.collect-requires-clause-room
collect-requires-clause-room g c = grind (arith, room-later)

pub returns-then-look_for_answer-clause-some : goal.returns-then-look_for_answer-clause-some
returns-then-look_for_answer-clause-some g c = grind (arith, collects-later, call-grown)
