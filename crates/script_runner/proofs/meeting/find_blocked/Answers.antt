use Rattle.script_runner.proofs.Blocking.{calls-later}
use Rattle.script_runner.proofs.meeting.find_blocked.Goals as goal

pub returns-then-are_blocked-clause-looked : goal.returns-then-are_blocked-clause-looked
returns-then-are_blocked-clause-looked g c =
    calls-later (calls-later c.journal_len-count.ensures.calls
    c.are_blocked-are_blocked.ensures.calls) c.journal_len.ensures.calls

pub returns-else-are_blocked-clause-looked : goal.returns-else-are_blocked-clause-looked
returns-else-are_blocked-clause-looked g c =
    calls-later (calls-later c.journal_len-count.ensures.calls
    c.are_blocked-are_blocked.ensures.calls) c.journal_len.ensures.calls
