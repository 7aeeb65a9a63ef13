use Rattle.c_handles.proofs.Members.{same_deadline}
use Rattle.c_handles.specs.Standings.{ticket_of}
use Rattle.c_handles.proofs.member.Member.record.Goals as goal

pub invariant_of-self-2-clause-deadline : goal.invariant_of-self-2-clause-deadline
invariant_of-self-2-clause-deadline c =
    rw (c.settle.ensures.process, c.into_process.ensures) (same_deadline c.in_ok-guard.guard.process
    c.record-departed.result.0 (ticket_of c.args.self.now.standing) c.args.self.now.until
    c.record-departed.ensures.calls c.in_ok-guard.ensures.guard c.args.self.now.deadline)
