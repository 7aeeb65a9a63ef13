use Rattle.std.proofs.Common.{◌≡◌, ◌≤◌, ◌+◌, take}
use Rattle.std.specs.VecDeque.{deque_capacity}
use Rattle.mq_state.proofs.notices.Inbox.copy.Given as goal

-- the first notices were copied, and there is room for the rest
abbrev pub invariant-loop-index : goal.invariant-loop-index
invariant-loop-index l = record {
  values : l.copy.values ≡ take l.index l.self-inside.values.items;
  room : deque_capacity l.self-inside.values ≤ l.copy.room + l.index;
}
