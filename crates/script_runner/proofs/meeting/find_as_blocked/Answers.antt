use Rattle.std.proofs.Common.{rules}
use Rattle.script_runner.proofs.meeting.find_as_blocked.Goals as goal

pub returns-then-all_find_blocked-clause-agree : goal.returns-then-all_find_blocked-clause-agree
returns-then-all_find_blocked-clause-agree g c = λ yes.
    let first = c.find_blocked-count.ensures.agree yes in
    let others = c.all_find_blocked.ensures.agree c.if-all_find_blocked.true in
    record { n = c.find_blocked-count.result.0; found = search rules }
