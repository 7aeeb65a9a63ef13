use Rattle.c_handles.proofs.Members.{same_deadline}
use Rattle.c_handles.specs.Standings.{ticket_of}
use Rattle.c_handles.proofs.member.Member.collect.Goals as goal

pub invariant_of-self-in-None-clause-deadline : goal.invariant_of-self-in-None-clause-deadline
invariant_of-self-in-None-clause-deadline c =
    rw (c.settle.ensures.process, c.into_process.ensures)
    (same_deadline c.in-Some-arrive.guard.process c.collect-departed.result.0
    (ticket_of c.args.self.now.standing) c.args.self.now.until
    (rw c.in-None.is at c.collect-departed.ensures.none).calls c.in-Some-arrive.ensures.guard
    c.args.self.now.deadline)
