use Rattle.std.proofs.Common.{◌-◌, ◌≡◌, ◌<◌, ◌≤◌, ◌+◌, ◌⊎◌, vec_len, vec_capacity, length}
use Rattle.std.specs.List.{All}
use Rattle.mq_state.specs.Kept.{notice_room}
use Rattle.mq_state.specs.Raising.{IsEmptyInbox, IsRaised}
use Rattle.mq_state.specs.Tables.{last_process}
use Rattle.mq_state.proofs.tables.Tables.raise.Given as goal

abbrev pub invariant-loop-inbox : goal.invariant-loop-inbox
invariant-loop-inbox l = record {
  raised : IsRaised l.fn.self l.self;
  below : l.self.n ≤ l.n;
  processes : l.fn.self.n < 32 → l.self.n + length l.inboxes.items ≡ last_process l.n;
  none : 32 ≤ l.fn.self.n → length l.inboxes.items ≡ 0;
  fresh : All (IsEmptyInbox (notice_room l.self.bounds)) l.inboxes.items;
  callers : vec_len l.self.callers + l.n ≤ vec_capacity l.self.callers + l.self.n;
  calls : vec_len l.self.calls + l.n ≤ vec_capacity l.self.calls + l.self.n;
  owners : vec_len l.self.owners + length l.inboxes.items ≤ vec_capacity l.self.owners;
  boxes : vec_len l.self.inboxes + length l.inboxes.items ≤ vec_capacity l.self.inboxes;
}

abbrev pub decreases-loop-inbox : goal.decreases-loop-inbox
decreases-loop-inbox l = goal.left-loop-inbox l

abbrev pub invariant-loop-self : goal.invariant-loop-self
invariant-loop-self l = record {
  raised : IsRaised l.fn.self l.self;
  below : l.self.n ≤ l.n;
  many : (l.self.n ≡ l.n) ⊎ (32 ≤ l.self.n);
  callers : vec_len l.self.callers + l.n ≤ vec_capacity l.self.callers + l.self.n;
  calls : vec_len l.self.calls + l.n ≤ vec_capacity l.self.calls + l.self.n;
}

abbrev pub decreases-loop-self : goal.decreases-loop-self
decreases-loop-self l = l.n - l.self.n
