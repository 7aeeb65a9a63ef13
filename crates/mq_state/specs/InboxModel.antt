use Rattle.std.specs.Prelude.{◌-◌}
use Rattle.std.specs.VecDeque.{deque_capacity, deque_len}
use Rattle.mq_state.specs.InboxShown.{InboxShown}
use Rattle.mq_state.specs.declared.notices.Inbox.TheInside.{Inside}

abbrev pub shown : Inside → InboxShown
shown b = record { values = b.values.items; room = deque_capacity b.values - deque_len b.values }
