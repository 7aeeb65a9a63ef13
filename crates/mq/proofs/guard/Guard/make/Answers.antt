use Rattle.std.proofs.Common.{◌∙◌, ap, sym}
use Rattle.mq_state.specs.Buffers.{filled, received_by}
use Rattle.mq.specs.Calls.{Entrant}
use Rattle.mq.proofs.Calling.{came-in, came-grows, came-quiet, came-made, came-found, begun}
use Rattle.mq.proofs.Messages.{filled-kept, received_by-kept}
use Rattle.mq.proofs.Replies.{asked, replied, may-be-refused}
use Rattle.mq.proofs.Returning.{is-call}
use Rattle.mq.proofs.guard.Guard.make.Goals as goal

pub of_answer-returned-requires : goal.of_answer-returned-requires
of_answer-returned-requires g c = record {
  replies = c.requires.kind c.ask-answer.result.reply (replied c.ask-answer.ensures.made.entry
      (may-be-refused c.args.call c.args.given.now _ c.requires.brings));
}

pub depart_after-seat-requires-clause-grows : goal.depart_after-seat-requires-clause-grows
depart_after-seat-requires-clause-grows g c =
    came-grows c.args.call c.args.given.now c.ask-answer.result.reply c.begin-inside.ensures.came
    (asked c.ask-answer.ensures.made.entry c.ask-answer.ensures.made.no_entry)

pub depart_after-seat-requires-clause-quiet : goal.depart_after-seat-requires-clause-quiet
depart_after-seat-requires-clause-quiet g c = λ quiet.
    let came = came-in c.begin-inside.ensures.came (ap (λ (e : Entrant). e.process) c.self.view_is)
    c.requires.made in
    c.begin-inside.ensures.knows.answers_are ∙ came-quiet c.args.call c.args.given.now
    c.ask-answer.result.reply came c.requires.free (asked c.ask-answer.ensures.made.entry
    c.ask-answer.ensures.made.no_entry) quiet

pub returns-clause-call : goal.returns-clause-call
returns-clause-call g c =
    let came = came-in c.begin-inside.ensures.came (ap (λ (e : Entrant). e.process) c.self.view_is)
    c.requires.made in
    let is = asked c.ask-answer.ensures.made.entry c.ask-answer.ensures.made.no_entry in
    rw (c.departed_of.ensures, c.depart_after-seat.ensures.left)
    (is-call c.args.call c.args.buf.now c.ask-answer.new.buf g.A.Returned.kind
    c.ask-answer.result.reply g.met.A.Returned.is_kind c.requires.brings.1
    (replied c.ask-answer.ensures.made.entry (may-be-refused c.args.call c.args.given.now _
    c.requires.brings))
    (came-made c.args.call c.args.given.now c.ask-answer.result.reply came c.requires.made is
    c.depart_after-seat.ensures.legal)
    (came-found c.args.call c.args.given.now c.ask-answer.result.reply came c.requires.made is
    c.ask-answer.ensures.made.full)
    (c.of_answer-returned.ensures _ (c.ask-answer.ensures.received ∙
    sym (ap (λ past. received_by past c.ask-answer.result.reply) is ∙
    received_by-kept c.begin-inside.result.1.books.records c.self.inside.number c.args.call
    c.args.given.now c.ask-answer.result.reply (replied c.ask-answer.ensures.made.entry
    (may-be-refused c.args.call c.args.given.now _ c.requires.brings)))))
    (λ receives. c.ask-answer.ensures.buffer receives ∙
    sym (ap (λ past. filled past c.ask-answer.result.reply c.args.buf.now) is ∙
    filled-kept c.begin-inside.result.1.books.records c.self.inside.number c.args.call
    c.args.given.now c.ask-answer.result.reply c.args.buf.now receives)))

pub returns-clause-begun : goal.returns-clause-begun
returns-clause-begun g c =
    let came = came-in c.begin-inside.ensures.came (ap (λ (e : Entrant). e.process) c.self.view_is)
    c.requires.made in
    let is = asked c.ask-answer.ensures.made.entry c.ask-answer.ensures.made.no_entry in
    rw (c.departed_of.ensures, c.depart_after-seat.ensures.left)
    (begun c.args.call c.args.given.now c.ask-answer.result.reply came c.requires.free is)
