use Rattle.std.proofs.Common.{arith}
use Rattle.std.proofs.lemmas.List.Elements.{All-take}
use Rattle.mq_state.specs.Kept.{notice_room}
use Rattle.mq_state.specs.Raising.{IsEmptyInbox}
use Rattle.mq_state.proofs.CallersOf.{last-few}
use Rattle.mq_state.proofs.Raising.{raised-then, last-own, last-most}
use Rattle.mq_state.proofs.tables.Tables.raise.Goals as goal

pub loop-inbox-preserved : goal.loop-inbox-preserved
loop-inbox-preserved c = record {
  raised = raised-then c.args.self.now c.loop-inbox.self c.add_process.new.self
      c.loop-inbox.invariant.raised c.add_process.ensures.raised;
  below = grind (arith, last-few, last-own, last-most);
  processes = grind arith;
  none = grind arith;
  fresh = rw (c.add_process.ensures.raised.bounds, c.pop.ensures.rest)
      (All-take (IsEmptyInbox (notice_room c.loop-inbox.self.bounds)) _ c.loop-inbox.inboxes.items
      c.loop-inbox.invariant.fresh);
  callers = grind arith;
  calls = grind arith;
  owners = grind arith;
  boxes = grind arith;
}

pub loop-self-preserved : goal.loop-self-preserved
loop-self-preserved c = record {
  raised = raised-then c.args.self.now c.loop-self.self c.add_thread.new.self
      c.loop-self.invariant.raised c.add_thread.ensures.raised;
  below = grind arith;
  many = grind arith;
  callers = grind arith;
  calls = grind arith;
}
